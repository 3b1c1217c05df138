pub mod Complete
pub mod Counts
pub mod Members
pub mod Named
pub mod Twice
pub mod Found
pub mod Grouped
pub mod PoolGroups
pub mod Indexed
pub mod Pairs
pub mod Differ
pub mod OfNode
pub mod NamedSets
pub mod Drawn
pub mod Few
mod SameSlices
mod SliceFields
mod NodeSees
mod Learned
mod Listing
pub mod OnePool
mod PoolOrder
mod Indexing
mod Tallying
pub mod Deciding
