-- Lemmas: the laws that the code's clauses cite, and what they rest on. Nothing here has to be read to know what is promised.
pub mod TableLeads
pub mod RingSteps
pub mod RingWaitFree
pub mod SlotSteps
