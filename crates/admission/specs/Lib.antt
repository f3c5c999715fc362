pub mod Values
pub mod WellFormed
pub mod Admitted
pub mod Tests
