pub mod Counts
pub mod Extents
pub mod Targets
pub mod Outcomes
pub mod BodyLaws
pub mod CodeSteps
