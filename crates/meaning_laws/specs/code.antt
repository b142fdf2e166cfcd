pub mod Objects
pub mod Counts
pub mod Good
pub mod Laws
pub mod Example
