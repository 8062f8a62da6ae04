pub mod Stated
pub mod Wanting
pub mod InTurn
pub mod Behind
