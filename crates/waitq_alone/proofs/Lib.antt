pub mod Outcomes
pub mod PlainWords
pub mod Playing
pub mod ReadWords
pub mod Reading
pub mod Refusals
