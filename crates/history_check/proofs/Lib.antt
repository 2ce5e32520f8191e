pub mod Moves
pub mod Orders
pub mod Thin
pub mod LeftOut
pub mod Spreading
pub mod Settling
pub mod Expecting
pub mod Deciding
