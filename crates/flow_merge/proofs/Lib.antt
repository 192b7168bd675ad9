pub mod Looks
pub mod MergerEnds
pub mod Merged
pub mod Turns
pub mod Whole
