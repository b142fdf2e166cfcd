pub mod Dangling
pub mod Good
pub mod GoodEquations
pub mod Laws
