pub mod Firsts
pub mod Inverse
pub mod Lengths
pub mod MetaKept
pub mod Fresh
pub mod Scan
pub mod Texts
