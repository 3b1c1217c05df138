pub mod ForNode
pub mod Texts
pub mod Lines
pub mod Opening
pub mod Commands
pub mod Words
pub mod Reopening
pub mod Going
