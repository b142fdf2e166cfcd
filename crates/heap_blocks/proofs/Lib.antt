pub mod Pieces
pub mod Heading
mod Marking
mod Fitting
mod Holing
mod Holding
mod Returning
pub mod Owning
mod Placing
pub mod Objects
pub mod Rows
pub mod Staying
mod Marked
