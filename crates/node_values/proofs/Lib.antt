pub mod Lower
pub mod NodeLaws
pub mod SheetLaws
