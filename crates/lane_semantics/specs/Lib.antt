pub mod FormedLanes
pub mod LaneRows
pub mod LaneValues
pub mod MoveRows
pub mod Sources
pub mod VectorRows
pub mod Vectors
pub mod Widths
