mod Plain
pub mod Reporting
mod Tallying
