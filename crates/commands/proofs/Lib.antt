pub mod Documents
pub mod Lengths
pub mod Lists
