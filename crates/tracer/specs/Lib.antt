pub mod Matching
pub mod Recording
pub mod Traces
