-- The proofs.
pub mod QueuedOrders
pub mod RousedTasks
