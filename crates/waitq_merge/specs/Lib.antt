pub mod Merging
pub mod MergeRun
