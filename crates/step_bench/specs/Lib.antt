pub mod Loop
pub mod Start
