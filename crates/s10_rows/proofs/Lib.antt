pub mod Replaced
pub mod Writing
