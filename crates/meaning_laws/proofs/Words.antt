-- The words that lemmas speak of, by house.
pub mod Core
pub mod Meaning
pub mod Std
