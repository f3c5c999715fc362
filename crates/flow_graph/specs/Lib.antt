pub mod Flows
pub mod Marks
