-- Bits, and who keeps and tries them.
pub mod BitRecords
pub mod BitSteps
pub mod PickedEntries
pub mod PageSteps
pub mod BitKeepers
pub mod WordBits
pub mod HighBits
pub mod BitClears
pub mod Tryings
