pub mod Operands
pub mod Operators
pub mod Values
pub mod Conditions
