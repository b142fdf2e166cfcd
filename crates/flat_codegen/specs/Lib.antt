pub mod Emitting
pub mod Placing
pub mod Statics
pub mod Running
pub mod Lasting
pub mod Laws
pub mod Executed
pub mod Alike
