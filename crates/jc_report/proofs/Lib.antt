pub mod Shown
pub mod Again
pub mod Taken
pub mod Lives
pub mod SoFar
pub mod JsonShown
