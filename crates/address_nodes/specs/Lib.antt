pub mod Multiples
pub mod Differences
pub mod Heads
