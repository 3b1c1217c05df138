pub mod Dated
pub mod Memo
