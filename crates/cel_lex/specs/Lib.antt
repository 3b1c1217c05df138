pub mod Bytes
pub mod Gap
pub mod Numbers
pub mod Strings
pub mod Spelling
pub mod Lexis
pub mod Place
pub mod Tokens
