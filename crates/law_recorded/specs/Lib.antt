pub mod Recorded
pub mod OneStep
