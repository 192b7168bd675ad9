-- The proofs.
pub mod RunsTo
pub mod LeftWays
pub mod CondWays
pub mod CellWays
pub mod BitWays
pub mod PageWays
pub mod WorkedWays
