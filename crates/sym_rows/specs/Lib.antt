pub mod FlagExprs
pub mod LazyFlags
pub mod Leaves
