pub mod Examples
pub mod Word
pub mod Words
pub mod Seek
pub mod Counts
pub mod Laws
