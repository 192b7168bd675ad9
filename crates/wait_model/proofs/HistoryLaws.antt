-- What a view tells is what the history says plainly.
pub mod PlainReadings
pub mod Stretches
pub mod HoldWalks
pub mod CalledEntries
pub mod HoldBooks
pub mod PassedPlaces
pub mod LeftWalks
pub mod OwedWakes
pub mod HeadScans
pub mod Coverings
pub mod ViewsTold
pub mod ZeroLoads
pub mod HoldLooks
pub mod UnlockedLooks
pub mod StepTotals
pub mod NoLostWake
