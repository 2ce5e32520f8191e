pub mod Incoming
pub mod Outgoing
