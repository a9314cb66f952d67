pub mod Steps
pub mod Receives
