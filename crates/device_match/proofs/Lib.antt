pub mod Matched
pub mod Valued
mod Plain
