-- What contracts of this crate cite.
pub mod PlainStorage
pub mod Alone
pub mod PlainTarget
pub mod PlainParts
pub mod Braces
pub mod GivenLengths
pub mod PlainAround
pub mod Held
pub mod Switches
pub mod Initializing
pub mod Declaring
pub mod Stepping
