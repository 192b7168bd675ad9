pub mod PageWaits
pub mod Workers
pub mod KilledWorkers
