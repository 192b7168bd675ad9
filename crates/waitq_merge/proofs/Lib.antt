pub mod Joined
pub mod MergeAnswers
pub mod MergeAsked
pub mod MergeFronts
pub mod MergePassed
pub mod MergeStops
