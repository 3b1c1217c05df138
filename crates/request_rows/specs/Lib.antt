pub mod Wanted
pub mod Columns
pub mod Taints
pub mod Rows
pub mod Chosen
pub mod Places
pub mod Seen
pub mod Requests
