pub mod Located
