pub mod PageTables
pub mod PageStays
pub mod PageEnds
pub mod PageWords
pub mod PageLeaves
pub mod LosesNone
