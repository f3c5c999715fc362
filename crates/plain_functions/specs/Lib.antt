pub mod Plain
pub mod Plainness
pub mod ShortForm
pub mod Shown
pub mod Straight
pub mod Sums
pub mod Verdict
