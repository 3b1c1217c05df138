pub mod Range
pub mod Value
pub mod Printed
pub mod Cells
pub mod Messages
pub mod Grammar
