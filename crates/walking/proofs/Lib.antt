pub mod Tactics
pub mod Lent
