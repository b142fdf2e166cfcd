pub mod Excess
pub mod Table
