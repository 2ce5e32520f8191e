pub mod Doings
pub mod Whole
pub mod Drained
pub mod Laws
pub mod SeenMore
