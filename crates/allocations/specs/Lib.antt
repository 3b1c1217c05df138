pub mod Claims
pub mod Input
pub mod Allocation
pub mod Outcomes
pub mod Growth
pub mod Lacking
pub mod Lost
