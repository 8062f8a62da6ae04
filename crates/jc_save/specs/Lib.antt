pub mod Limits
pub mod Placing
pub mod Spelling
pub mod Savable
pub mod Reading
pub mod Restoring
