pub mod LeavingTask
