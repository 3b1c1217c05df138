pub mod Selected
pub mod True
