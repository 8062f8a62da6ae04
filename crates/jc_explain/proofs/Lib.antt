pub mod Counts
pub mod MemberNames
pub mod Pieces
pub mod TableNames
pub mod Texts
