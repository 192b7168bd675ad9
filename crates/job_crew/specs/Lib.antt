pub mod Crews
pub mod Kinds
