pub mod Dealing
pub mod ByHand
pub mod Dealt
pub mod Halves
pub mod Naming
pub mod Seating
pub mod Sharded
pub mod Sharding
