-- What contracts cite.
pub mod Posts
pub mod Findings
pub mod Queueing
pub mod Handing
pub mod Tables
pub mod Laws
pub mod Frames
pub mod FrameLaws
pub mod Wholes
pub mod UnderWay
