-- What was so at a moment of a call stays so at its later ones.
use Rattle.std.proofs.Common.{inl, inr, List, [], ◌∷◌}
use Rattle.queue_steps.specs.State.{State}
use Rattle.queue_laws.specs.Common.Moments.{SeenIn, seen_by, IsStarted}

pub seen_map : {A : Type 0} (ms : List (State A)) {P Q : State A → Type 0} → ((m : State A) → P m → Q m) → SeenIn ms P → SeenIn ms Q
seen_map [] f s = s
seen_map (m ∷ ms) f (inl p) = inl (f m p)
seen_map (m ∷ ms) f (inr s) = inr (seen_map ms f s)

pub seen_later : {A : Type 0} (ms : List (State A)) (q : State A) (P : State A → Type 0) → SeenIn ms P → SeenIn (seen_by q ms) P
seen_later [] q P s = s
seen_later (m ∷ ms) q P s = inr s

pub seen_now : {A : Type 0} (ms : List (State A)) (q : State A) (P : State A → Type 0) → IsStarted ms → P q → SeenIn (seen_by q ms) P
seen_now [] q P started p = absurd started
seen_now (m ∷ ms) q P started p = inl p

pub started_later : {A : Type 0} (ms : List (State A)) (q : State A) → IsStarted ms → IsStarted (seen_by q ms)
started_later [] q s = s
started_later (m ∷ ms) q s = tt
