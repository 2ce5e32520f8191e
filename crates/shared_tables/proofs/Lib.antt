mod TableParties
mod Quits
mod Crowds
mod TableAllows
mod TableOperations
mod TableTouches
pub mod TableRests
mod RingEnding
mod RingFinish
mod SlotFinish
