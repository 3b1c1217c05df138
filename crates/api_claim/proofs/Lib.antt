pub mod Inverse
pub mod Kept
pub mod Limits
pub mod Readings
pub mod Zips
pub mod Named
