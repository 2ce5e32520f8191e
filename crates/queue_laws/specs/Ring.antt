pub mod RingShared
pub mod RingCells
pub mod RingWords
pub mod RingPasses
pub mod RingAt
pub mod RingEarly
pub mod RingOpening
pub mod RingTransitions
