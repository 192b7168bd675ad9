-- Heads at which no place is left.
pub mod WornNotes
pub mod WornLate
