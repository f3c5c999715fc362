pub mod Guarding
pub mod Paths
pub mod Returning
pub mod RunEnds
pub mod Runs
