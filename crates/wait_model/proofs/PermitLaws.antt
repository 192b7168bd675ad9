-- Permits of completions, handed on exactly.
pub mod Sums
pub mod OwnTurns
pub mod PermitTurns
pub mod PermitQueues
pub mod PermitSteps
pub mod CountDebts
pub mod PermitEvents
pub mod PermitSelections
pub mod PermitRuns
pub mod PermitScripts
