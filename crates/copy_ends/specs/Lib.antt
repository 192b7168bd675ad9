pub mod Copied
pub mod Did
