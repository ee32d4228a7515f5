pub mod Calls
pub mod Starred
pub mod Refusals
pub mod Examples
pub mod Retunes
pub mod Parallel
pub mod Routes
pub mod Previews
