pub mod Slots
pub mod Pointers
pub mod PointersEquations
pub mod Copying
pub mod CopyingEquations
pub mod Ranges
