pub mod DueParts
pub mod Dues
pub mod DueTimes
pub mod StopKinds
