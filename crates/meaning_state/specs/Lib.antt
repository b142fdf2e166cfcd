pub mod Refusing
pub mod Kinds
pub mod Reaching
pub mod Making
pub mod Living
pub mod Printing
pub mod Fitting
