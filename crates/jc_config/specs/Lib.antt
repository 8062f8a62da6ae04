pub mod Config
pub mod Faults
pub mod FirstFault
pub mod Kinds
pub mod Limits
pub mod Members
