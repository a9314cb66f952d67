pub mod Decimals
pub mod Grammar
pub mod Laws
pub mod Numbers
pub mod Pieces
pub mod Reading
pub mod Rows
pub mod Splits
