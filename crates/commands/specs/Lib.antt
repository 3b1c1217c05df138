pub mod Documents
pub mod Objects
pub mod Commands
pub mod Readings
