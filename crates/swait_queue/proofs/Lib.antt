pub mod SimplePrograms
pub mod SimpleWaitEnds
pub mod SimpleWakeEnds
pub mod SimpleWords
pub mod SwakeHolds
pub mod LosesNone
