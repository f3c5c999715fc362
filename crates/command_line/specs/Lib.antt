pub mod Command
pub mod Parser
pub mod Parts
pub mod Reading
pub mod View
