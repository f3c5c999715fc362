mod Cases
pub mod Allowed
pub mod StartRanges
pub mod Differences
pub mod Families
pub mod Frames
pub mod Keeping
pub mod KeptStates
pub mod RowValues
pub mod Closed
pub mod StateRanges
pub mod Targets
pub mod VectorFamilies
pub mod VectorFrames
pub mod VectorRanges
pub mod VectorTable
pub mod VectorWrites
pub mod Writing
