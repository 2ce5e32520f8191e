pub mod Handles
pub mod Splitting
pub mod Turns
pub mod Values
