pub mod Report
pub mod Explanation
pub mod Json
pub mod Notice
pub mod Parts
pub mod Pieces
pub mod Told
pub mod Putting
