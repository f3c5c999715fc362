pub mod ChainBounds
pub mod Cycles
pub mod Places
pub mod Ranks
pub mod Rules
