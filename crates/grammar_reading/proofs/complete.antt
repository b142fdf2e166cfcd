pub mod Reads
pub mod Firsts
pub mod Expressions
pub mod Specs
pub mod Declarators
pub mod Declarations
pub mod Texts
pub mod Relined
