pub mod Marking
pub mod Starts
