pub mod Reasons
pub mod Messages
pub mod Answers
pub mod Lists
