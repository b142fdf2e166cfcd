pub mod Ending
pub mod Leading
pub mod Holding
pub mod Calling
pub mod Meant
pub mod Groups
pub mod Steps
