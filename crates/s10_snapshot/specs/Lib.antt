pub mod Readings
pub mod Copies
