pub mod Breaching
pub mod Cycling
pub mod Joining
