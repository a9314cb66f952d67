pub mod Gathers
pub mod Heeds
pub mod Coded
pub mod Tests
pub mod Laws
pub mod Firsts
