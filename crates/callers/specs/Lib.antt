pub mod Openers
pub mod Displaced
