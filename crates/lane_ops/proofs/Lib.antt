pub mod Inside
pub mod LaneSums
pub mod Turns
pub mod WordSteps
