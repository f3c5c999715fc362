pub mod Closed
pub mod Classes
pub mod VectorForms
pub mod Forms
pub mod Table
pub mod Building
