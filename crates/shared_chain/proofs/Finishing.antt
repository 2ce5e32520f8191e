pub mod Ended
pub mod Finish
pub mod Finished
pub mod Leftovers
pub mod Abandoned
