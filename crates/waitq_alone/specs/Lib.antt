pub mod Alone
pub mod Commands
pub mod Drill
pub mod Events
pub mod Fault
pub mod Outcome
pub mod Parsed
