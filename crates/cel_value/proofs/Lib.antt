pub mod Keys
pub mod Within
pub mod Wide
