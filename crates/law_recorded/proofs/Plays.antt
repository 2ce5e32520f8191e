-- How the calls of a run are played: how far each is in an order of the recorded events, and what one move before makes of that.
use Rattle.std.proofs.Common.{◌≡◌, ◌≢◌, ◌∙◌, ℕ, ◌<◌, Bool, false, Option, Some, None, List, [], ◌∷◌, length, sym, subst, inl, inr, arith}
use Rattle.std.proofs.lemmas.Bool.{cases_eq}
use Rattle.std.proofs.lemmas.List.{length-set}
use Rattle.std.proofs.lemmas.Option.{slice_get_cases}
use Rattle.std.specs.Prelude.{slice_get, slice_set}
use Rattle.queue_steps.specs.State.{State}
use Rattle.queue_steps.specs.Replies.{Tells}
use Rattle.machine_replay.specs.Vocabulary.{Effect}
use Rattle.machine_replay.specs.Book.{Open, MayEnd}
use Rattle.history_check.specs.declared.recorded.Event.{Event}
use Rattle.history_check.specs.declared.recorded.Move.{Move}
use Rattle.history_check.specs.declared.recorded.Way.{Way}
use Rattle.history_check.specs.declared.recorded.Way.TheVariants.{Waiting, Halfway, Answered}
use Rattle.history_check.specs.Legal.{Stage, Goes}
use Rattle.history_check.proofs.Moves.{set_here, set_other}

abbrev pub stage : State ℕ → List (Option Way) → Stage
stage Q ways = record { queue = Q; calls = ways; at_once = false }

-- The open call may be so far; the flag is whether the queue was open when it began. A call that will have an effect waits until then, and one that will have none
-- until the moment that allows its reply. So one that has its reply may end with it.
abbrev pub IsWay : Bool → Open ℕ → Way → Type 0
IsWay flag o (Waiting c b) = (c ≡ o.call) × (b ≡ flag) × (o.effects ≡ [])
IsWay flag o (Halfway r) = (old v : ℕ) × (o.effects ≡ Effect.Front old v ∷ []) × Tells o.call r (Effect.Front old v ∷ Effect.Arrive ∷ [])
IsWay flag o (Answered r) = MayEnd o r

-- the same of a party, which may be between calls
abbrev pub IsSoFar : Bool → Option (Open ℕ) → Option Way → Type 0
IsSoFar flag None None = Unit {0}
IsSoFar flag (Some o) (Some way) = IsWay flag o way
IsSoFar flag None (Some way) = ⊥
IsSoFar flag (Some o) None = ⊥

abbrev pub SoFar : (ℕ → Bool) → (ℕ → Option (Open ℕ)) → ℕ → Option Way → Type 0
SoFar flags calls p w = IsSoFar (flags p) (calls p) w

-- each party is as far as it may be, and from there on all these events are taken
pub record Play (parties : ℕ) (Q : State ℕ) (May : ℕ → Option Way → Type 0) (es : List Event) : Type 0 where
  pub ways : List (Option Way)
  pub many : length ways ≡ parties
  pub may : (p : ℕ) (w : Option Way) → slice_get ways p ≡ Some w → May p w
  pub moves : List Move
  pub goes : Goes (stage Q ways) es moves

-- where a party is in a list that has each
pub at_party : {parties : ℕ} {Q : State ℕ} {May : ℕ → Option Way → Type 0} {es : List Event} (play : Play parties Q May es) (p : ℕ) → p < parties → (w : Option Way) × (slice_get play.ways p ≡ Some w) × May p w
at_party play p lt = elim ((slice_get_cases play.ways p).1) [
  | inl found ↦ (found.0, found.2, play.may p found.0 found.2)
  | inr past ↦ absurd (let le = past.0 in let many = play.many in omega (arith, le, many, lt))
]

-- a play that begins earlier, where one party was less far
pub earlier : {parties : ℕ} {Q : State ℕ} {May : ℕ → Option Way → Type 0} {es : List Event} (play : Play parties Q May es) (p : ℕ) (now w : Option Way) → slice_get play.ways p ≡ Some now
    → (R : State ℕ) (Could : ℕ → Option Way → Type 0) (fs : List Event) (ms : List Move) → Could p w → ((q : ℕ) (v : Option Way) → q ≢ p → May q v → Could q v) → Goes (stage R (slice_set play.ways p w)) fs ms
    → Play parties R Could fs
earlier play p now w at R Could fs ms here others goes = record {
  ways = slice_set play.ways p w;
  many = length-set play.ways p w ∙ play.many;
  may = may;
  moves = ms;
  goes = goes;
}
  where
    may : (q : ℕ) (v : Option Way) → slice_get (slice_set play.ways p w) q ≡ Some v → Could q v
    may q v is = elim (cases_eq q p) [
      | inl same ↦
          let there : slice_get (slice_set play.ways p w) p ≡ Some v = subst (λ k. slice_get (slice_set play.ways p w) k ≡ Some v) same is in
          let that : w ≡ v = let mine = set_here play.ways p now w at in cc in
          subst (λ k. Could k v) (sym same) (subst (Could p) that here)
      | inr ne ↦ others q v ne (play.may q v (sym (set_other play.ways p q w ne) ∙ is))
    ]

-- the same play, of which more is known
pub known : {parties : ℕ} {Q : State ℕ} {May : ℕ → Option Way → Type 0} {es : List Event} (play : Play parties Q May es) (Could : ℕ → Option Way → Type 0)
    → ((q : ℕ) (v : Option Way) → slice_get play.ways q ≡ Some v → May q v → Could q v) → Play parties Q Could es
known play Could each = record { ways = play.ways; many = play.many; may = λ q v at. each q v at (play.may q v at); moves = play.moves; goes = play.goes }
