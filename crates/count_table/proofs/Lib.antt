pub mod Again
pub mod Around
pub mod Changed
pub mod Kept
pub mod Moved
pub mod Searched
