pub mod Reaching
pub mod Owing
pub mod Ending
pub mod OneReport
