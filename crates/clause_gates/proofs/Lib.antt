pub mod Forms
pub mod GateLaws
pub mod Places
