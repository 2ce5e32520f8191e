pub mod Replies
pub mod LineFaults
pub mod Histories
pub mod Orders
pub mod Answers
pub mod Asked
pub mod Commands
