pub mod Folds
pub mod States
pub mod Rounds
pub mod Starts
pub mod Examples
