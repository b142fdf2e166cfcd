pub mod Cuts
pub mod Tested
pub mod Assigned
