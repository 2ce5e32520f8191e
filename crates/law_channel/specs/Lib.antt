pub mod Machine
pub mod Laws
pub mod Examples
