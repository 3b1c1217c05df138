pub mod Apart
pub mod Wanted
