pub mod Fails
pub mod Memory
pub mod MemFolders
