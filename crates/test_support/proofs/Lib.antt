mod Closings
pub mod Tallies
