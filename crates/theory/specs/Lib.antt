pub mod Best
pub mod Routed
pub mod Rest
