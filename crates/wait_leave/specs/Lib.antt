-- What contracts cite.
pub mod Leaves
pub mod ExitLaws
pub mod OnTheWay
