pub mod Tries
pub mod Parts
pub mod Searches
pub mod Memory
pub mod Copied
