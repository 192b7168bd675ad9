pub mod Drill
pub mod Worked
