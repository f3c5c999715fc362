pub mod Longer
pub mod Joined
