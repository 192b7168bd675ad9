pub mod Entries
pub mod Steps
pub mod Waking
pub mod Endings
