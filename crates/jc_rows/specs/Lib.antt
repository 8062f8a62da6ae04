pub mod Images
pub mod Listed
pub mod Rows
