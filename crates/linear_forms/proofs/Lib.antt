pub mod Powers
pub mod Zips
pub mod Pushes
pub mod Mixes
pub mod Reducing
pub mod WeightedSums
pub mod Systems
pub mod Worths
