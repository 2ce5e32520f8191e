pub mod Displacing
pub mod Trace
pub mod TraceSteps
pub mod TraceRun
pub mod Within
pub mod AtOnce
