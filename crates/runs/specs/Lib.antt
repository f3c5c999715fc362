pub mod Equivalent
pub mod Path
pub mod Run
pub mod Stepping
