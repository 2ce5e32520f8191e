pub mod Coded
pub mod Moments
pub mod Laws
pub mod Left
pub mod Stretch
pub mod Waits
