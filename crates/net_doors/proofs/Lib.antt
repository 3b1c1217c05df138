pub mod Opening
pub mod Traits
