pub mod Own
pub mod Settled
