-- Lemmas: the laws that the code's clauses cite, and what they rest on. Nothing here has to be read to know what is promised.
pub mod ComputedRuns
pub mod OwnSlotAnswers
pub mod Sound
