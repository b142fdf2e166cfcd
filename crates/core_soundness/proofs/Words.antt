-- The words of the definitions that lemmas speak of, by house.
pub mod Std
pub mod Trees
pub mod Types
pub mod Core
pub mod Elaborating
pub mod Facts
