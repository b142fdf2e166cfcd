pub mod Forms
pub mod Arguments
pub mod Told
pub mod Trees
pub mod Outcomes
pub mod Leaves
