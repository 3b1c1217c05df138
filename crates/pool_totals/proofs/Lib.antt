pub mod Adding
pub mod Draws
pub mod Counted
pub mod Places
pub mod Counting
pub mod Recounting
