-- What contracts cite.
pub mod LeftWords
pub mod WaySays
pub mod CondWays
pub mod CellWays
pub mod BitWays
pub mod PageWays
pub mod WorkedWays
