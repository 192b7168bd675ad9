-- What contracts cite.
pub mod Asleep
pub mod Listening
pub mod Stretches
pub mod Queued
pub mod Settled
pub mod WorkedWaits
