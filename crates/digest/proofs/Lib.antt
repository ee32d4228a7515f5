pub mod Choosing
pub mod Turning
