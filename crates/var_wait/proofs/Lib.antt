pub mod VarEnds
pub mod VarWords
pub mod Publishing
pub mod LosesNone
