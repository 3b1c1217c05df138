pub mod Between
pub mod Hitting
pub mod Joining
pub mod Looking
pub mod Placing
pub mod Sorting
pub mod Reaching
