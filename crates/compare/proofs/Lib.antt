pub mod Ruled
pub mod Walking
pub mod Retunes
pub mod Joining
pub mod Reversed
pub mod Beside
