pub mod Zeros
pub mod Adding
pub mod Making
pub mod Summing
pub mod Constants
