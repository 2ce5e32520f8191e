pub mod ChainCells
pub mod ChainFacts
pub mod ChainPasses
pub mod ChainAt
pub mod ChainAnswers
pub mod ChainTransitions
pub mod ChainAfter
pub mod ChainEarly
