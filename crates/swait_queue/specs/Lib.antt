pub mod SimpleWaits
pub mod SimpleWakes
pub mod SimpleWords
pub mod SwakeTurns
pub mod LosesNone
