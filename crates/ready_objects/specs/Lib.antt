pub mod InOrder
pub mod Ready
