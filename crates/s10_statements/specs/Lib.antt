pub mod Shown
pub mod ConnectionState
pub mod Steps
pub mod LaterMarks
pub mod Statements
pub mod Creating
