pub mod Pinning
pub mod CountedState
pub mod Counting
pub mod Checking
pub mod Freeing
pub mod Returning
pub mod CountedMeaning
