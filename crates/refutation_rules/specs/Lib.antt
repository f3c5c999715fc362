pub mod Operators
pub mod Known
pub mod Pairs
pub mod Sums
pub mod Steps
pub mod Judging
pub mod Holding
