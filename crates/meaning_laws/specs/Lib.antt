pub mod objects
pub mod counted
pub mod code
pub mod compiled
