pub mod Channel
pub mod Counting
pub mod Receiving
pub mod Polling
pub mod Errors
pub mod QueueCalls
