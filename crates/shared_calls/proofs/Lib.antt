pub mod Filling
pub mod GivesUp
pub mod Settling
pub mod Steps
pub mod Wakes
pub mod Quits
