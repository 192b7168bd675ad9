pub mod EventTasks
pub mod CompletionTasks
pub mod TurnTasks
