pub mod Raises
pub mod Transfers
pub mod Turns
pub mod Watched
pub mod Work
