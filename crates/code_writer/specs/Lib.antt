pub mod CodesWritten
pub mod Steps
