pub mod PollTurns
pub mod PollShows
pub mod PollSteps
pub mod PollSleepers
