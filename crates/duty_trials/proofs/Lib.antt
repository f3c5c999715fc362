pub mod Elements
pub mod Growing
pub mod NeededBytes
pub mod Values
