pub mod Items
pub mod Limits
pub mod Steps
