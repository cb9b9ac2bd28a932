pub mod Peer
pub mod Counts
pub mod Link
pub mod Carried
pub mod ScriptLink
pub mod UdpLink
