pub mod Turns
pub mod Steps
pub mod Routes
pub mod Entries
pub mod Searching
