-- Lemmas of the walk over specs and declarators.
pub mod Enumerators
pub mod Free
pub mod MemberLists
pub mod Nodes
pub mod Turns
