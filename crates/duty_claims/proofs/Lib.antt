pub mod Goals
pub mod Needs
