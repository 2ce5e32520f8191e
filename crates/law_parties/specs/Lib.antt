pub mod Doings
pub mod Laws
