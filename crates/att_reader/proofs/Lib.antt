pub mod LoopSteps
pub mod TextLaws
pub mod ClosedInsns
pub mod ClosedTexts
