pub mod Counts
pub mod Parting
pub mod OneSide
pub mod Trying
mod EndViews
pub mod Polls
pub mod QueueCalls
