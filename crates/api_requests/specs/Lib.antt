pub mod Bodies
pub mod Objects
pub mod Tasks
