pub mod Joining
pub mod SourceLines
pub mod ObjectParts
