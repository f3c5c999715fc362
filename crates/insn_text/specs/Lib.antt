pub mod InsnText
pub mod ReadBack
pub mod ShowText
