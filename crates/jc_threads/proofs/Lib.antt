pub mod Lists
pub mod Batched
pub mod Making
pub mod Dealt
pub mod Gathered
pub mod Managed
pub mod Seats
