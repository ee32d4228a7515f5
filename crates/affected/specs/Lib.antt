pub mod Net
pub mod Affected
pub mod Hunt
pub mod Prepared
