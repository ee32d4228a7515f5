pub mod Telling
pub mod Choosing
