pub mod Passed
pub mod Sides
pub mod Mergers
pub mod MergerWords
pub mod MergerSteps
pub mod Merged
