pub mod Chaining
pub mod Laned
