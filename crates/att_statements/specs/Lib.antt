pub mod Operands
pub mod Statements
pub mod ReadingOperands
pub mod ReadingStatements
