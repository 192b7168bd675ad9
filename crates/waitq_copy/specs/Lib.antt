pub mod Copying
pub mod Run
