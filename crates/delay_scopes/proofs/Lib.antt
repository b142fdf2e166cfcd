pub mod Lowering
mod Wording
mod Chaining
mod Covering
mod Granules
mod Finding
mod Working
mod Counting
mod Starts
mod Queueing
mod Returning
mod Ready
mod Others
mod Keeping
