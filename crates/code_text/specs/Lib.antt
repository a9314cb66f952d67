pub mod CodeText
pub mod Steps
