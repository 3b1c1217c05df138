pub mod Cuts
pub mod Digits
pub mod Lines
pub mod Events
pub mod Texts
pub mod Names
pub mod Whole
pub mod Rows
