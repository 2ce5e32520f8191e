mod Closings
pub mod Displacing
mod Halves
mod ChannelHalves
