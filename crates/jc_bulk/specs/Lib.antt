pub mod Listing
pub mod Tallied
pub mod Provided
pub mod Waits
pub mod Each
pub mod Ahead
pub mod Calls
pub mod Entries
