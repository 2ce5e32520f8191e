pub mod SlotSteps
pub mod SlotEarly
pub mod SlotRanks
pub mod SlotHolder
pub mod SlotCells
