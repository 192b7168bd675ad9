pub mod CondTasks
