pub mod Listing
pub mod Claims
pub mod Code
pub mod Refused
pub mod Pieces
