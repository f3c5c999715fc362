pub mod Prefixes
pub mod Trimming
pub mod LineItems
pub mod TextLines
pub mod TextItems
pub mod CodeSteps
pub mod TextFaults
