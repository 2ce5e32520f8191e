pub mod Progress
pub mod Engine
pub mod Slot
pub mod Ring
pub mod Chain
pub mod Replays
pub mod Traces
