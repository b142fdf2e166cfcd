pub mod Words
pub mod Forms
pub mod Nodes
pub mod sound
pub mod complete
