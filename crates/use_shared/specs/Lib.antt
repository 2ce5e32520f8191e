pub mod Work
pub mod Steps
pub mod Sharing
