pub mod Codecs
pub mod HeadCodecs
pub mod Keys
pub mod Loops
pub mod Placing
pub mod RowCodecs
pub mod Whole
pub mod Written
