pub mod Chains
pub mod Examples
pub mod Functions
pub mod Leads
pub mod Pace
pub mod Related
