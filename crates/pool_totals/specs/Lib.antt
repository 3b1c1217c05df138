pub mod Drawn
pub mod Adding
pub mod Counting
pub mod Recounting
