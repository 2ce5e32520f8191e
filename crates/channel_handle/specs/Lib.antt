pub mod Ends
pub mod Iter
pub mod Left
