pub mod Targets
pub mod Paths
pub mod Methods
