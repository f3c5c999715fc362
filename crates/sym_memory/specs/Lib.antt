pub mod Writes
pub mod Reads
pub mod Choices
pub mod Bytes
