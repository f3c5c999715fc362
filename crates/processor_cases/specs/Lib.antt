pub mod Agreement
pub mod Numbers
pub mod Table
pub mod VectorNumbers
