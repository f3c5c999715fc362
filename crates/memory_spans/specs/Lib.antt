pub mod Memory
pub mod Regions
pub mod Spans
