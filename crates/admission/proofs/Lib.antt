pub mod Ranges
pub mod Meanings
