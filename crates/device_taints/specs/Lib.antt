pub mod Tolerating
pub mod Reading
pub mod Limits
