pub mod Clauses
pub mod Marking
pub mod Resolving
pub mod Chaining
