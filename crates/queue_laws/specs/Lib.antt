pub mod Common
pub mod Slot
pub mod Ring
pub mod Chain
pub mod History
pub mod Moment
