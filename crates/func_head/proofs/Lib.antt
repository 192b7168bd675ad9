pub mod FoundEntries
pub mod WalkSteps
