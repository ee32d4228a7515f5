pub mod Run
pub mod Start
pub mod Code
pub mod Rounds
