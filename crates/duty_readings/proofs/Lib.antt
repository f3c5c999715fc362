pub mod Assigning
pub mod Clauses
pub mod Lists
pub mod NodeCases
pub mod Reaching
pub mod Reading
pub mod Variables
