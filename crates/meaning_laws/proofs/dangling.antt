pub mod Falls
pub mod Touching
pub mod Burying
pub mod Returning
pub mod Standing
pub mod Stands
pub mod Plain
