pub mod Examples
pub mod Needs
pub mod Truth
pub mod Whole
