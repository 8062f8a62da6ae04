pub mod Hits
pub mod Table
pub mod TableJson
pub mod Trace
