pub mod Bodies
pub mod Folding
pub mod Fronts
pub mod Methods
pub mod Scopes
pub mod Stops
