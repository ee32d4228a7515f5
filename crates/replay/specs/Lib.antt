pub mod Replay
pub mod Code
