-- What is legal where a displacement is one step is legal where it takes two.
use Rattle.std.proofs.Common.{◌≡◌, ◌≢◌, ◌∙◌, inl, inr, ℕ, suc, zero, Bool, true, false, not, Option, Some, None, List, [], ◌∷◌, refl, ap, sym, subst}
use Rattle.std.proofs.lemmas.Bool.{cases_eq}
use Rattle.std.specs.Prelude.{slice_get, slice_set, replicate}
use Rattle.queue_steps.specs.{State.State, Effect.made, declared.model.Reply.Reply, declared.model.Effect.Effect as effect}
use Rattle.queue_steps.proofs.Keeping.{stays_closed}
use Rattle.history_check.specs.declared.recorded.{Event.Event, Event.TheVariants.Begin, Event.TheVariants.End, Move.Move, Way.Way, Way.TheVariants.Waiting, Way.TheVariants.Halfway, Way.TheVariants.Answered}
use Rattle.history_check.specs.Legal.{Stage, IsAt, moved, opening, MayRecord, recorded, Makes, Goes}
use Rattle.history_check.proofs.{Moves.set_here, Moves.set_other, Moves.set_same, Orders.along}
use Rattle.law_recorded.specs.OneStep.{in_one_step, OneStepIsTwo}
use Rattle.law_recorded.proofs.Places.{set_twice}

-- each call is on a way that its party may be on
abbrev pub AllOnWay : (ℕ → Way → Type 0) → List (Option Way) → Type 0
AllOnWay May calls = (p : ℕ) (w : Way) → slice_get calls p ≡ Some (Some w) → May p w

-- one party goes on, and what the others may be on they may be on then
pub on_way : (May Then : ℕ → Way → Type 0) (calls : List (Option Way)) (p : ℕ) (o : Option Way) → ((k : ℕ) (w : Way) → k ≢ p → May k w → Then k w) → ((w : Way) → o ≡ Some w → Then p w) → AllOnWay May calls → AllOnWay Then (slice_set calls p o)
on_way May Then calls p o others its all k w there = elim (cases_eq k p) [
  | inl same ↦
      let is : Some w ≡ o = set_same calls p o (Some w) (rw same at there) in
      subst (λ (i : ℕ). Then i w) (sym same) (its w (sym is))
  | inr ne ↦ others k w ne (all k w (sym (set_other calls p k o ne) ∙ there))
]

-- at first no party is in a call
pub none_on_way : (May : ℕ → Way → Type 0) (parties : ℕ) → AllOnWay May (replicate parties None)
none_on_way May zero p w there = absurd (cc)
none_on_way May (suc n) zero w there = absurd (cc)
none_on_way May (suc n) (suc p) w there = none_on_way (λ k. May (suc k)) n p w there

-- a call that waits saw the queue open
abbrev IsOpen : ℕ → Way → Type 0
IsOpen p (Waiting c b) = b ≡ true
IsOpen p w = Unit {0}

-- where the queue is open, each call that waits saw it so
abbrev SawOpen : Stage → Type 0
SawOpen s = s.queue.closed ≡ false → AllOnWay IsOpen s.calls

was_open : (a b : Bool) → (a ≡ true → b ≡ true) → b ≡ false → a ≡ false
was_open true b keeps free = absurd (let shut = keeps refl in cc)
was_open false b keeps free = refl

saw_on : (s : Stage) (Q : State ℕ) (p : ℕ) (o : Option Way) → (s.queue.closed ≡ true → Q.closed ≡ true) → (Q.closed ≡ false → (w : Way) → o ≡ Some w → IsOpen p w) → SawOpen s → SawOpen (moved s Q p o)
saw_on s Q p o keeps its saw free = on_way IsOpen IsOpen s.calls p o (λ k w ne is. is) (its free) (saw (was_open s.queue.closed Q.closed keeps free))

saw_event : (s : Stage) (e : Event) → SawOpen s → SawOpen (recorded s e)
saw_event s (Begin p c) saw =
    saw_on s s.queue p (Some (Waiting c (not s.queue.closed))) (λ shut. shut)
    (λ free w is. let now : not s.queue.closed ≡ true = ap not free in let same : Waiting c (not s.queue.closed) ≡ w = cc in subst (IsOpen p) same now) saw
saw_event s (End p r) saw = saw_on s s.queue p None (λ shut. shut) (λ free w is. absurd (cc)) saw

-- the same stage by the rules of two steps
abbrev in_two : Stage → Stage
in_two s = record s { at_once = false }

abbrev GoesInTwo : Stage → List Event → List Move → Type 0
GoesInTwo s es ms = SawOpen s → s.at_once ≡ true → (ns : List Move) × Goes (in_two s) es ns

two_by_event : (s : Stage) (e : Event) (es : List Event) (ms : List Move) → MayRecord s e → GoesInTwo (recorded s e) es ms → GoesInTwo s (e ∷ es) (Move.Event ∷ ms)
two_by_event s (Begin p c) es ms may later saw once = let on = later (saw_event s (Begin p c) saw) once in (Move.Event ∷ on.0, (recorded (in_two s) (Begin p c), es, (may, refl, refl), on.1))
two_by_event s (End p r) es ms may later saw once = let on = later (saw_event s (End p r) saw) once in (Move.Event ∷ on.0, (recorded (in_two s) (End p r), es, (may, refl, refl), on.1))

-- the moves behind one by which a call got its reply
behind : (s t : Stage) (Q : State ℕ) (p : ℕ) (r : Reply ℕ) (es : List Event) (ms : List Move) → t ≡ moved s Q p (Some (Answered r)) → (s.queue.closed ≡ true → Q.closed ≡ true) → GoesInTwo t es ms → SawOpen s → s.at_once ≡ true
    → (ns : List Move) × Goes (moved (in_two s) Q p (Some (Answered r))) es ns
behind s t Q p r es ms is keeps later saw once =
    let o : Option Way = Some (Answered r) in
    let there : SawOpen (moved s Q p o) = saw_on s Q p o keeps (λ free w same. let it : Answered r ≡ w = cc in subst (IsOpen p) it tt) saw in
    subst (λ (u : Stage). GoesInTwo u es ms) is later there once

two_by_move : (s t : Stage) (m : Move) (es : List Event) (ms : List Move) → Makes s m t → GoesInTwo t es ms → GoesInTwo s es (m ∷ ms)
two_by_move s t Move.Event es ms makes later saw once = absurd makes
two_by_move s t (Move.See p r) es ms (c, b, at, allows, is) later saw once =
    let on = behind s t s.queue p r es ms is (λ shut. shut) later saw once in
    (Move.See p r ∷ on.0, (moved (in_two s) s.queue p (Some (Answered r)), es, ((c, b, at, allows, refl), refl), on.1))
two_by_move s t (Move.Act p r) es ms (c, b, e, at, tells, fits, is) later saw once =
    let on = behind s t (made e s.queue) p r es ms is (stays_closed s.queue (e ∷ []) (fits, tt)) later saw once in
    (Move.Act p r ∷ on.0, (moved (in_two s) (made e s.queue) p (Some (Answered r)), es, ((c, b, e, at, tells, fits, refl), refl), on.1))
two_by_move s t (Move.Part p r) es ms (c, x, y, at, tells, fits, steps, is) later saw once = absurd (cc)
two_by_move s t (Move.Arrive p) es ms (r, at, fits, steps, is) later saw once = absurd (cc)
two_by_move s t (Move.Displace p r) es ms (c, b, x, y, at, tells, fits, free, one, is) later saw once =
    let Q : State ℕ = made (effect.Front x y) s.queue in
    let both : State ℕ = made effect.Arrive Q in
    let on = behind s t both p r es ms is (stays_closed s.queue (effect.Front x y ∷ effect.Arrive ∷ []) (fits, ((y, refl), tt))) later saw once in
    let here : slice_get s.calls p ≡ Some (Some (Waiting c true)) = subst (λ (a : Bool). slice_get s.calls p ≡ Some (Some (Waiting c a))) (saw free p (Waiting c b) at) at in
    let middle : Stage = moved (in_two s) Q p (Some (Halfway r)) in
    let last : Stage = moved (in_two s) both p (Some (Answered r)) in
    let calls = set_twice s.calls p (Some (Halfway r)) (Some (Answered r)) in
    let is_last : last ≡ moved middle both p (Some (Answered r)) = ap (λ (l : List (Option Way)). record (in_two s) { queue = both; calls = l }) (sym calls) in
    let there : IsAt middle p (Halfway r) = set_here s.calls p (Some (Waiting c b)) (Some (Halfway r)) at in
    (Move.Part p r ∷ Move.Arrive p ∷ on.0, (middle, es, ((c, x, y, here, tells, fits, refl, refl), refl), (last, es, ((r, there, (y, refl), refl, is_last), refl), on.1)))

pub one_step_is_two : OneStepIsTwo
one_step_is_two cap parties events (moves, goes) =
    let start : Stage = opening (in_one_step cap) parties in
    along GoesInTwo (λ s saw once. ([], refl)) (λ s e es ms may g. two_by_event s e es ms may) (λ s t m es ms makes g on. two_by_move s t m es ms makes (on t g)) moves events start goes (λ free. none_on_way IsOpen parties) refl
