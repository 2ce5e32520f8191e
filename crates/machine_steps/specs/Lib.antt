pub mod World
pub mod Steps
pub mod ChainLeft
pub mod Left
pub mod Machine
