pub mod Checks
pub mod Fronts
pub mod HasFault
pub mod Keys
pub mod Parts
