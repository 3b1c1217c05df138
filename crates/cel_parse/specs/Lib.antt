pub mod Grammar
pub mod Parts
pub mod Operands
pub mod Steps
pub mod Answer
pub mod Text
pub mod Trees
