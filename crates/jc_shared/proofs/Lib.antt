pub mod Asked
pub mod Callbacks
pub mod Carrying
pub mod GivingUp
pub mod Lending
pub mod Writing
pub mod Unasked
