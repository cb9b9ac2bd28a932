pub mod Dates
pub mod Years
