pub mod Laws
pub mod InRange
pub mod Places
