pub mod Adding
pub mod NoText
pub mod Parts
pub mod Readings
pub mod Known
pub mod Meters
