pub mod ReadNumber
pub mod FirstLine
pub mod ReadCall
pub mod ReadArgs
pub mod ReadLoad
pub mod Parting
pub mod Writing
