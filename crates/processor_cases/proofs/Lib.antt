pub mod Readings
pub mod RowFlags
pub mod Tallies
