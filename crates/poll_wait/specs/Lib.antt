pub mod Seconds
pub mod SecondSteps
pub mod Polls
pub mod TurnSteps
pub mod Waiting
pub mod WorkedPolls
