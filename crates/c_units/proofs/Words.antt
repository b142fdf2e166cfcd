-- The words that lemmas speak of, by house.
pub mod Std
pub mod Trees
pub mod Units
