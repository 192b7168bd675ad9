pub mod Joining
pub mod Waiting
