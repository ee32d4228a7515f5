pub mod Copied
pub mod Previewing
