pub mod Visits
pub mod Shares
pub mod MemDoors
pub mod AllMemDoors
pub mod Replies
