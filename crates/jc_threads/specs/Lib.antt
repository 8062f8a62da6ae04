pub mod Faults
pub mod Lines
pub mod Batches
pub mod Dealing
pub mod Managing
