pub mod Body
pub mod Faults
pub mod Functions
pub mod Reading
pub mod Firsts
pub mod Labelled
