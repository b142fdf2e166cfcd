pub mod Listing
pub mod Exactness
pub mod Points
mod Runs
mod Collecting
