pub mod Flowing
pub mod Matched
pub mod Recorded
pub mod Traced
pub mod Matchings
