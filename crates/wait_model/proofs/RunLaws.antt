-- What holds in every state that a run reaches.
pub mod OthersEvents
pub mod FineEvents
pub mod StateMoves
pub mod RunningStates
pub mod WholeLooks
pub mod WaitEvents
pub mod BitEvents
pub mod PageEvents
pub mod PagelessPoints
pub mod PagesHanded
pub mod ProgramEvents
pub mod CompletionEvents
pub mod WalkEvents
pub mod WalkCounts
pub mod EveryRun
pub mod NeverWorn
