mod Scripts
mod Numerals
pub mod Led
pub mod Bound
