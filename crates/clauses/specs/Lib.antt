pub mod Assignments
pub mod Resolvents
