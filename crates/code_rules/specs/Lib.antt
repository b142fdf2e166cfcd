pub mod Lively
pub mod Rules
pub mod Deciding
pub mod Operands
pub mod Answers
pub mod Scopes
pub mod Functions
pub mod Whole
