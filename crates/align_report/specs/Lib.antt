pub mod Outputs
pub mod Changes
pub mod RunReport
pub mod Writing
pub mod Telling
pub mod PlainReport
pub mod Refusals
pub mod Usage
