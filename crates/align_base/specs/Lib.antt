pub mod Causes
pub mod Codes
pub mod Files
pub mod Reading
pub mod Shelf
pub mod Sink
pub mod MemKinds
pub mod SureKinds
