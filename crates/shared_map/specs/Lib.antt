pub mod Chunks
pub mod Lent
