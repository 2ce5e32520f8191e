pub mod OneSlot
pub mod OneRing
pub mod OneChain
