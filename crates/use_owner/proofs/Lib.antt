pub mod Newest
pub mod LogRings
pub mod Places
pub mod PoolRings
