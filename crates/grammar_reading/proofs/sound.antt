pub mod Specs
pub mod Declarators
pub mod Declarations
pub mod Texts
