pub mod Hearers
