pub mod Search
pub mod Code
