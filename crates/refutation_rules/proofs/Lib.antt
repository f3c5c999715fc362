pub mod Operators
pub mod Differences
pub mod Lookups
pub mod Bits
pub mod Combining
pub mod Steps
