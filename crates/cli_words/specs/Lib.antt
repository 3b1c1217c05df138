pub mod Clap
pub mod Given
pub mod Words
