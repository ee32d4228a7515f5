pub mod Routing
pub mod Deciding
pub mod Weights
pub mod Behind
pub mod Preview
pub mod Digest
pub mod Upgrade
