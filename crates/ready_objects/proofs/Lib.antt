pub mod Decided
pub mod Gathered
