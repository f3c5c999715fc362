pub mod Naming
pub mod Starts
pub mod Loads
pub mod Choosing
pub mod Ranges
