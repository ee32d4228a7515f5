pub mod Examples
pub mod Rows
pub mod Opening
pub mod Pieces
pub mod Reading
pub mod Best
pub mod Refused
