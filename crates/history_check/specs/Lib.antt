pub mod LeftOut
pub mod Legal
pub mod Levels
pub mod Verdicts
