-- Words are read back, and show the table.
pub mod DecodedWords
pub mod CondWords
pub mod TaskWords
pub mod BitWords
pub mod ShownSteps
pub mod LawfulWords
