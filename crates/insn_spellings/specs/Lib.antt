pub mod Rows
pub mod LegacyRows
pub mod VexRows
pub mod Spellings
pub mod Widths
