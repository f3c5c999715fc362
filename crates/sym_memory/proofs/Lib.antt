pub mod ByteLoops
pub mod ByteValues
pub mod Choosing
pub mod Longer
pub mod Testing
