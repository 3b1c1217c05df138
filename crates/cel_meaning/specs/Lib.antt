pub mod Cost
pub mod Folds
pub mod HasKind
pub mod Meaning
pub mod Memory
pub mod Plain
pub mod Steps
