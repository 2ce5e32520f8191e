pub mod OwnChainCells
pub mod OwnChainOwned
pub mod OwnChain
pub mod ChainMemory
pub mod ItemsLeft
pub mod Laws
