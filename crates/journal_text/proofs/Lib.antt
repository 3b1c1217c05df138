mod Appended
mod Printed
mod Whole
mod Rows
pub mod Counts
mod Unsat
