pub mod Net
pub mod Closure
pub mod Hunt
pub mod Passes
pub mod Examples
pub mod Batch
pub mod Fits
