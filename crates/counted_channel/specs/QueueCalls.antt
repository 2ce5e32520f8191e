pub mod Calls
pub mod Looks
pub mod Polled
pub mod Waiting
