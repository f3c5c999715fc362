pub mod Rules
pub mod Made
pub mod Sheet
pub mod Kept
pub mod Building
