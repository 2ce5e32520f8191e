-- Lemmas: the laws that the code's clauses cite, and what they rest on. Nothing here has to be read to know what is promised.
pub mod Numbers
pub mod RingAnswers
pub mod RingParty
pub mod RingSame
pub mod RingRests
pub mod Sound
