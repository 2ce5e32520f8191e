pub mod Frames
pub mod Steps
pub mod Finishing
pub mod CallLaws
pub mod WaitFree
pub mod Opening
pub mod Leading
pub mod Crowds
