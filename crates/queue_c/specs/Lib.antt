pub mod Held
pub mod Numbers
pub mod Answers
pub mod Fits
pub mod Ends
pub mod Handles
pub mod Begins
