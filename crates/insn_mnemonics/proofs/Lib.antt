pub mod VectorNaming
pub mod Naming
