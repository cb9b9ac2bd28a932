pub mod Options
pub mod Jobs
pub mod Printing
pub mod CommandLine
