pub mod Agreeing
pub mod Building
