pub mod Turns
pub mod Steps
pub mod Forms
pub mod ReallocParts
