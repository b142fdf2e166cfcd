pub mod Examples
pub mod NumberedNames
pub mod LayerParts
pub mod SameTypes
pub mod ScopeLemmas
