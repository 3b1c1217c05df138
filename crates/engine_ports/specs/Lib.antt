pub mod Decisions
pub mod Passed
