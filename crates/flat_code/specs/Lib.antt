pub mod Runs
pub mod Table
pub mod Lives
pub mod Sites
pub mod WellFormed
pub mod WellFormedEquations
