pub mod Capping
pub mod Gathered
pub mod TypesOfBounds
pub mod Scopes
