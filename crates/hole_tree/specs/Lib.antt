pub mod Granules
pub mod Runs
pub mod RowEquations
pub mod Tree
