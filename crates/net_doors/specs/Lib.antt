pub mod NetDoors
