pub mod ConditionsMade
pub mod FlagReads
pub mod NamedLeaves
pub mod ReadSteps
pub mod Results
pub mod RowFlags
pub mod RowNodes
pub mod RowWidths
