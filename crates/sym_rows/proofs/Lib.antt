pub mod FlagForms
pub mod LeafValues
pub mod LeafWidths
pub mod Past
pub mod Staying
pub mod Values
pub mod Widths
