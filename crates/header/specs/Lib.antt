pub mod Reads
pub mod Stage
