pub mod Counted
pub mod NewKeys
