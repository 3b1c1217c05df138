pub mod Full
pub mod Sure
