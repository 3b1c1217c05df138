pub mod Fields
pub mod Nodes
pub mod Classes
pub mod Pods
pub mod Limits
