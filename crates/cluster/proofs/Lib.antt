pub mod Preparing
pub mod Equal
pub mod Freeing
pub mod PassedNext
pub mod Using
