-- Queues, their members, and the walks over them.
pub mod QueueOrder
pub mod QueueEnds
pub mod QueueMarks
pub mod QueuePlaces
pub mod Arrivals
pub mod MemberStands
pub mod LinkedQueues
pub mod FoundEntries
pub mod OwnBookmarks
pub mod OutsideWalks
pub mod PlacesApart
pub mod CalledFirst
