pub mod Sharing
pub mod Verdicts
pub mod Works
pub mod Meetings
pub mod Counts
