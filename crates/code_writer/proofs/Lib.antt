pub mod Laws
pub mod Longest
pub mod Rising
pub mod Rows
pub mod Unique
pub mod Back
pub mod Upward
