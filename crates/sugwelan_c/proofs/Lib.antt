pub mod BlockValues
pub mod Freed
pub mod Further
pub mod Made
pub mod Refused
pub mod Walks
