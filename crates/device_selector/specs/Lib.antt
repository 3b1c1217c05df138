pub mod Compiles
pub mod Selectors
