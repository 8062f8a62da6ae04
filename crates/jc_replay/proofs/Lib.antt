pub mod Counting
pub mod Keys
pub mod Lines
pub mod Traces
