pub mod Queue
pub mod Freed
pub mod Pointers
pub mod PointersEquations
pub mod Check
pub mod Walks
pub mod Laws
pub mod Ends
