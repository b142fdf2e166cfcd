pub mod Behind
pub mod GrowthEquations
pub mod FoundEquations
pub mod Negated
pub mod PlainWorking
pub mod PlainArguments
pub mod Steps
