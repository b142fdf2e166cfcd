mod Joining
pub mod TypeLayouts
