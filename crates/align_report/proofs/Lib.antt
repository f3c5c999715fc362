pub mod Bytes
pub mod OneReport
pub mod Pieces
pub mod Running
pub mod RegisterLines
