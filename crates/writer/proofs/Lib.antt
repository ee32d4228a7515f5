pub mod Digits
pub mod Laid
pub mod Fields
pub mod Text
pub mod Writing
