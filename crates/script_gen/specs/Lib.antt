pub mod Generator
pub mod Documents
pub mod Script
pub mod Laid
