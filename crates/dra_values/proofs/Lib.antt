pub mod Ordered
mod Written
