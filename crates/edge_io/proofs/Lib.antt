pub mod Known
pub mod Prefix
pub mod Sending
