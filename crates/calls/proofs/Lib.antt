pub mod Judging
pub mod Flat
pub mod Rows
