pub mod Identifiers
pub mod Requests
pub mod Replies
pub mod Client
pub mod Words
pub mod Lines
