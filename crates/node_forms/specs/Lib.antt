pub mod Linearity
pub mod Forms
pub mod Sums
pub mod Gathering
pub mod Listed
