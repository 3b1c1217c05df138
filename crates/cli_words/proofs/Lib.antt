pub mod Numerals
pub mod OptionRules
pub mod PlainWords
pub mod Walks
pub mod Reading
pub mod Commands
pub mod Values
