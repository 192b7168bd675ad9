pub mod Asked
pub mod Blocks
pub mod Handles
pub mod Served
pub mod Told
