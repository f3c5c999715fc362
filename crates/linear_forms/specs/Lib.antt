pub mod Combinations
pub mod Places
pub mod MatrixRows
pub mod Pivots
