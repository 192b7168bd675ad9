-- Whole runs of calls as words of events.
pub mod OwnFindings
pub mod Fronts
pub mod FollowedRuns
pub mod BegunRuns
pub mod SignalledRuns
pub mod WalkFindings
pub mod FollowedWakes
pub mod FollowedWalks
pub mod SelectingWalks
pub mod SelectedEntries
