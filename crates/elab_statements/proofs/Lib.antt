-- Lemmas of the walks over declarations and statements.
pub mod SpecWords
pub mod Entries
pub mod Again
pub mod Cuts
pub mod Digits
pub mod ListRules
pub mod Forms
pub mod InitsInTurn
pub mod GivenLengths
pub mod PartsInTurn
pub mod InTurn
pub mod Returns
pub mod Switching
pub mod StatementKinds
pub mod Ends
pub mod WholeTexts
pub mod MainTypes
