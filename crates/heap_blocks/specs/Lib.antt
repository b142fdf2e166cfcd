pub mod Bytes
pub mod Heads
pub mod Runs
pub mod Held
pub mod Rows
pub mod Laws
pub mod Calls
