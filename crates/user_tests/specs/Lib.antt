pub mod PipeTasks
