pub mod Locates
pub mod Whole
pub mod Begins
