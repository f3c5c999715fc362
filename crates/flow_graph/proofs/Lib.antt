pub mod Marking
pub mod Paths
