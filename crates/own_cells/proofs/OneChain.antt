pub mod Pieces
pub mod Linked
pub mod Layings
pub mod OwnChainBegins
pub mod ChainBegins
pub mod ItemsLeft
