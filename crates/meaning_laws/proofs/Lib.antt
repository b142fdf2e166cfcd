pub mod dangling
pub mod counts
pub mod soundness
pub mod form
pub mod agreement
mod Words
