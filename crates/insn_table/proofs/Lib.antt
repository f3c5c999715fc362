pub mod Judging
pub mod TableInsns
pub mod Apart
pub mod ClosedLists
pub mod Built
