pub mod ListRules
pub mod Twice
pub mod Signatures
pub mod CodeSizes
pub mod DefinedCalls
pub mod Fitting
mod Puts
