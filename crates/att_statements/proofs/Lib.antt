pub mod NumberTexts
pub mod RegisterTexts
pub mod PartTexts
pub mod MemoryTexts
pub mod WrittenTexts
pub mod PartLists
pub mod StatementTexts
