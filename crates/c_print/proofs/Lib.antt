pub mod Widths
pub mod Fronts
pub mod Convs
pub mod Parts
pub mod Pieces
pub mod Fields
pub mod Numerals
pub mod Functions
