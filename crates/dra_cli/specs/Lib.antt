pub mod Memory
pub mod Lines
pub mod Exercise
pub mod Task
pub mod Program
pub mod Headline
pub mod Causes
pub mod Serving
