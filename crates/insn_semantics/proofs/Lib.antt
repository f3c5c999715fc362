pub mod Comparisons
pub mod ConditionLaws
pub mod FlagLaws
pub mod FormedLaws
pub mod FormedLeaves
pub mod SignedSums
pub mod SignedWords
pub mod WordLaws
