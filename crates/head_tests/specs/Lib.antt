pub mod Leaving
pub mod Meeting
pub mod Ready
