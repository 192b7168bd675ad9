pub mod VarWaits
pub mod VarLeaves
pub mod VarPublishes
pub mod VarWords
pub mod LosesNone
