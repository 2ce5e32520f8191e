pub mod Busy
pub mod Presence
pub mod Filling
mod Writing
