-- Worked histories, and what the tests of single steps show.
pub mod QueuedEntry
pub mod SelectedEntry
pub mod HandedPage
pub mod WorkedHolds
pub mod WorkedEvents
pub mod WorkedSetters
pub mod WorkedPipes
pub mod PassedCells
