-- Whole runs: selections, interrupted waits, signals, and the counts of completions.
pub mod RunAccounts
pub mod Refusals
pub mod TakenEntries
pub mod GivenUpWaits
pub mod Selections
pub mod OrderlyAccounts
pub mod SignalCounts
pub mod DoneCounts
pub mod DoneStores
pub mod PageTrails
pub mod LentPages
