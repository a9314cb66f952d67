pub mod Blockwise
pub mod Ways
