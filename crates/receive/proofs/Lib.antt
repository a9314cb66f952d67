pub mod Stepwise
pub mod Ways
