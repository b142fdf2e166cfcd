pub mod Cuts
pub mod Wholes
pub mod Writable
