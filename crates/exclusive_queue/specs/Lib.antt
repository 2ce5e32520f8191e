pub mod Exclusive
pub mod QueueText
pub mod Iterating
pub mod Reading
pub mod Collecting
