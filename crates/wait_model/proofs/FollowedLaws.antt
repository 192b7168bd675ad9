-- A setter followed through time: whom it has published for and woken does not sleep.
pub mod OldWaiters
pub mod AheadEntries
pub mod WakePoints
pub mod WakeEnds
pub mod FollowedSetters
