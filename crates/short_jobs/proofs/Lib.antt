pub mod Pods
pub mod Jobs
