pub mod Tokens
pub mod Numbers
pub mod Written
pub mod Fitting
pub mod Parts
pub mod Statements
pub mod Texts
