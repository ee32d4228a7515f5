pub mod Property
pub mod Laws
pub mod Drift
