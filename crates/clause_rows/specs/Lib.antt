pub mod DutyClauses
pub mod Numbering
pub mod Reach
pub mod Readings
pub mod SameRows
