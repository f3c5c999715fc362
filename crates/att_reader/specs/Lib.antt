pub mod FunctionText
pub mod Reading
