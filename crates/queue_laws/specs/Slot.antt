pub mod SlotShared
pub mod SlotHolder
pub mod SlotRows
pub mod SlotEarly
pub mod SlotCells
