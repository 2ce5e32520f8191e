pub mod Openings
pub mod RingWrites
pub mod RingLies
pub mod Sent
pub mod ItemsLeft
pub mod Emptying
