pub mod Reports
pub mod Output
