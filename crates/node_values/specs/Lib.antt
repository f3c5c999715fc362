pub mod Environments
pub mod Nodes
pub mod Sheets
pub mod Values
