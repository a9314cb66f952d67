pub mod Halving
pub mod Windows
pub mod Laws
