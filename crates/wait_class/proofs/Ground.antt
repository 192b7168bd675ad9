pub mod Keeping
pub mod Standing
pub mod Going
pub mod WalkedCalls
