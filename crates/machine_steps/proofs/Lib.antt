pub mod EventPresence
pub mod Handling
