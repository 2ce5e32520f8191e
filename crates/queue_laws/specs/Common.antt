pub mod Vocabulary
pub mod Effects
pub mod Moments
pub mod Pushes
pub mod Puts
pub mod Stand
pub mod Operations
