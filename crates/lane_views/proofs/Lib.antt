pub mod Powers
pub mod Settings
