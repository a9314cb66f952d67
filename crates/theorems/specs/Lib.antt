pub mod Grouped
pub mod Sizes
pub mod WrittenRedundant
pub mod Demands
pub mod Redundancy
