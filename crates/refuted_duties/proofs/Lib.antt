pub mod Bytes
pub mod Grounds
