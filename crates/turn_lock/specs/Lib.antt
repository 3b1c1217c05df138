pub mod Places
pub mod Known
pub mod Stages
pub mod Rule
pub mod Steps
