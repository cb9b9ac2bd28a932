pub mod Writing
pub mod Growing
