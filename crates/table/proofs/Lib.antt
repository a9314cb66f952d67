pub mod Columns
pub mod Shifts
pub mod Takes
pub mod Laws
