pub mod StateNames
mod Vacancies
mod Shelves
mod Growing
mod Moves
mod Cells
pub mod Ties
pub mod Found
mod Going
mod ClockLaw
pub mod VisitLaws
pub mod Changes
pub mod TiedKeys
pub mod Walk
pub mod Saving
pub mod Numbers
mod Names
mod Lined
pub mod Goes
mod Judged
pub mod Told
