pub mod PoolDates
pub mod Rows
