pub mod Sets
pub mod Sweeps
pub mod Tables
