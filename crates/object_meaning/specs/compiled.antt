pub mod Handing
pub mod Places
pub mod Doing
pub mod Sites
pub mod Compiled
