pub mod ComputedSteps
pub mod OwnSlotCells
pub mod Laws
