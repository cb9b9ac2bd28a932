pub mod Schema
pub mod Columns
