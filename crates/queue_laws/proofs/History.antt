pub mod Keeping
pub mod Closing
pub mod Numbers
