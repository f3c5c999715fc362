pub mod Names
pub mod Grammar
pub mod Entries
pub mod Refusals
pub mod Reading
pub mod ReadingLines
