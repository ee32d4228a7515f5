pub mod Capped
pub mod Code
