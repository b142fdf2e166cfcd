pub mod Ascending
mod Cutting
mod Selecting
pub mod Worded
pub mod Following
pub mod Overlaid
pub mod Replaced
mod Touched
mod Outcomes
