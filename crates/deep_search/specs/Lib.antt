pub mod Progress
pub mod Parts
pub mod Choices
