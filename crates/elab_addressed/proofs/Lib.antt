pub mod ListTurns
pub mod ItemTurns
pub mod ScopeEnds
pub mod TreeParts
pub mod DefinedParams
pub mod Addresses
