pub mod Awaits
pub mod Counting
pub mod Sparing
pub mod Words
