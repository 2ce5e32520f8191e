-- Lemmas: the laws that the code's clauses cite. Nothing here has to be read to know what is promised.
pub mod ChainSite
