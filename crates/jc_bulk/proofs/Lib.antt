pub mod Names
pub mod Left
pub mod Ready
pub mod EachStep
pub mod Rows
