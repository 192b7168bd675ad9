-- What contracts cite.
pub mod SafeSleep
pub mod TakenOff
