pub mod Device
pub mod Functions
pub mod Lookups
pub mod Operators
pub mod Values
pub mod VersionLaws
