pub mod Progress
pub mod Served
pub mod Unfound
