-- Lemmas: the laws that the code's clauses cite, and what they rest on. Nothing here has to be read to know what is promised.
pub mod OwnChainAnswers
pub mod OwnChainChains
pub mod OwnChainKeeps
pub mod OwnChainLeaves
pub mod OwnChainPop
pub mod OwnChainPops
pub mod OwnChainPush
pub mod OwnChainPushes
pub mod OwnChainRuns
pub mod OwnChainSequential
