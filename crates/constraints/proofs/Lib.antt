pub mod SameValues
pub mod Taken
pub mod Kept
