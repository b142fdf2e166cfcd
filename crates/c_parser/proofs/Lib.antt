pub mod Steps
pub mod Unary
pub mod Grown
pub mod Functions
pub mod Texts
pub mod Loops
pub mod Scoping
mod Branches
mod Operations
mod Parsing
mod Conditions
