pub mod StepKinds
pub mod TableSteps
pub mod KnownLaws
pub mod WornHeads
pub mod SaidEvents
pub mod WorkedTests
