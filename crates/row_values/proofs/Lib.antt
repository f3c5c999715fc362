pub mod Places
pub mod PlainRows
pub mod RowNumbers
pub mod WordNumbers
