pub mod Caps
pub mod Fields
pub mod Marks
pub mod Steps
