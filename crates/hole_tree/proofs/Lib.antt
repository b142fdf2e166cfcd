mod Laws
mod Nodes
mod Finding
mod Scanning
pub mod Pieces
mod Trees
mod Refreshing
