pub mod Always
pub mod GoingOn
pub mod Applying
pub mod Headlines
pub mod Busy
pub mod Keyed
pub mod Claiming
pub mod Using
pub mod Taken
pub mod Uids
pub mod Adopting
pub mod Limits
pub mod Holders
pub mod Histories
mod Granting
mod Reserving
mod Determining
pub mod GrowthDates
