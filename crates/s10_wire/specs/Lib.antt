pub mod Ids
pub mod Datagrams
pub mod Padding
pub mod Kind
pub mod Reply
pub mod WireFault
pub mod Replies
