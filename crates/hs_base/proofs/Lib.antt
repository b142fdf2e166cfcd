pub mod Wrapping
pub mod Quotients
pub mod Pieces
