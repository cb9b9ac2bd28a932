pub mod Rules
pub mod BookFault
pub mod Book
pub mod Promises
pub mod Once
pub mod GroupCommit
pub mod Reading
