pub mod RingCells
pub mod RingWords
pub mod RingMemory
pub mod RingOpening
pub mod RingOwned
pub mod RingNew
pub mod ItemsLeft
pub mod Laws
