-- The worked scripts, computed.
pub mod FirstScripts
pub mod WaitForms
pub mod BitScripts
pub mod FollowedScripts
