-- The proofs.
pub mod Awake
pub mod ExitForms
pub mod Leaving
pub mod Ways
pub mod AskedPlans
