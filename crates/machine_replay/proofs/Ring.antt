pub mod Coded
pub mod Moments
pub mod Laws
pub mod Opening
pub mod Left
pub mod Kind
pub mod Stretch
pub mod Waits
