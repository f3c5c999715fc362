pub mod Answering
pub mod FirstFaults
