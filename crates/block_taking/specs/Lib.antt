pub mod Enters
