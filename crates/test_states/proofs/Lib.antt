pub mod Joining
pub mod Keeping
pub mod Loading
pub mod Naming
pub mod Outside
pub mod Spanning
