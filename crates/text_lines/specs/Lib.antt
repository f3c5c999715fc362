pub mod Bytes
pub mod Words
pub mod Lines
pub mod Texts
pub mod Cutting
pub mod Views
pub mod Kinds
pub mod Statements
