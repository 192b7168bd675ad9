-- The stages of a wait: whoever sleeps in one will be woken.
pub mod Waiters
pub mod WaitStages
pub mod LeavingStages
pub mod NextStages
pub mod ZeroCounts
pub mod Sleepers
pub mod Openings
pub mod OutsideStages
pub mod PageTurns
pub mod PageWaiters
