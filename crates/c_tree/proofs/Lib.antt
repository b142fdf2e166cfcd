pub mod Texts
pub mod ExprTexts
pub mod ListTexts
pub mod StmtTexts
pub mod NameTexts
pub mod SpecWords
pub mod Rereading
