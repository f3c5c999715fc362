pub mod Applied
pub mod Effects
pub mod Operands
pub mod PathFlags
pub mod Refusals
pub mod Results
