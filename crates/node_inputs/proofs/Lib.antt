pub mod WantedAt
pub mod Keys
