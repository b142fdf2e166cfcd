pub mod Ops
pub mod Spelling
pub mod CodeFile
pub mod Names
pub mod Parts
