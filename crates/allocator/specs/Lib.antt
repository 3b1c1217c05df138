pub mod Holding
pub mod Input
pub mod Placing
pub mod Agreeing
pub mod Kept
pub mod Answered
