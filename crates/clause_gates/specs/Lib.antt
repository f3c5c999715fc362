pub mod Gates
pub mod NormalForms
