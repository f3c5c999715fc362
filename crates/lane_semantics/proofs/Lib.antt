pub mod Chains
pub mod FormedLaws
pub mod RowLaws
pub mod SignedSaturation
pub mod SourceBits
