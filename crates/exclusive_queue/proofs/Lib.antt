pub mod Outcomes
pub mod Pops
pub mod SequentialRuns
mod Iterations
mod Texts
mod Soundness
pub mod Sent
pub mod Answered
