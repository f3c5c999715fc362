pub mod Answering
pub mod Firsts
