pub mod Coming
pub mod Work
