pub mod Caches
pub mod Documents
pub mod Duplicates
pub mod Limits
pub mod Loops
pub mod Readings
