pub mod Log
pub mod LogRings
pub mod Pool
pub mod PoolRings
