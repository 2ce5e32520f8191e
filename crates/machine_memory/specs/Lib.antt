pub mod Present
pub mod EffectOf
pub mod Blocks
pub mod SharedMemory
pub mod Opening
pub mod Room
pub mod Places
