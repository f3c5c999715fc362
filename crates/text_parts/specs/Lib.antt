pub mod Cuts
pub mod Numbers
pub mod Bytes
pub mod Places
pub mod ReadingNumbers
pub mod Laws
