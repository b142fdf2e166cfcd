pub mod SlotCounts
pub mod Texts
pub mod Refused
pub mod Turns
pub mod Tables
pub mod Pieces
pub mod Far
pub mod Jumping
