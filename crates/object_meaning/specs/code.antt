pub mod CodeState
pub mod Pinning
pub mod Entering
pub mod Returning
pub mod Checking
pub mod Freeing
pub mod CodeMeaning
