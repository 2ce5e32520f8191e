-- What a move between two events does, and what lists of calls keep.
use Rattle.std.proofs.Common.{◌≡◌, ◌≢◌, ◌∙◌, ℕ, suc, zero, Bool, true, false, Option, Some, List, [], ◌∷◌, refl, ap, sym, subst, ◌++◌, ◌<◌, length}
use Rattle.std.specs.Prelude.{slice_get, slice_set}
use Rattle.std.proofs.lemmas.{List.set_comm, List.get_or_append_left, Option.slice_get-get_or, Option.get_or_from_slice_get}
use Rattle.queue_steps.specs.{State.State, Effect.made, declared.model.Call.Call, declared.model.Reply.Reply, declared.model.Effect.Effect as effect}
use Rattle.queue_steps.proofs.Keeping.{stays_closed}
use Rattle.history_check.specs.declared.recorded.{Move.Move, Way.Way, Way.TheVariants.Waiting, Way.TheVariants.Halfway, Way.TheVariants.Answered}
use Rattle.history_check.specs.Legal.{Stage, IsAt, moved, Makes}

pub set_here : {X : Type 0} (xs : List X) (k : ℕ) (x y : X) → slice_get xs k ≡ Some x → slice_get (slice_set xs k y) k ≡ Some y
set_here [] k x y at = absurd (cc)
set_here (z ∷ xs) zero x y at = refl
set_here (z ∷ xs) (suc k) x y at = set_here xs k x y at

pub set_other : {X : Type 0} (xs : List X) (k i : ℕ) (y : X) → i ≢ k → slice_get (slice_set xs k y) i ≡ slice_get xs i
set_other [] k i y ne = refl
set_other (x ∷ xs) zero zero y ne = absurd (ne refl)
set_other (x ∷ xs) zero (suc i) y ne = refl
set_other (x ∷ xs) (suc k) zero y ne = refl
set_other (x ∷ xs) (suc k) (suc i) y ne = set_other xs k i y (λ e. ne (ap suc e))

pub set_same : {X : Type 0} (xs : List X) (k : ℕ) (y z : X) → slice_get (slice_set xs k y) k ≡ Some z → z ≡ y
set_same [] k y z at = absurd (cc)
set_same (x ∷ xs) zero y z at = cc
set_same (x ∷ xs) (suc k) y z at = set_same xs k y z at

-- what is in a list keeps its place when the list grows
pub at_front : {X : Type 0} (xs more : List X) (k : ℕ) (x : X) → k < length xs → slice_get (xs ++ more) k ≡ Some x → slice_get xs k ≡ Some x
at_front xs more k x h at = slice_get-get_or xs k x h ∙ ap Some (sym (get_or_append_left xs more x k h) ∙ get_or_from_slice_get (xs ++ more) k x x at)

-- a party that is at o is so far, or waits for the same call and saw the queue open where that one did not
abbrev pub IsAsOpen : Option Way → Way → Type 0
IsAsOpen o (Waiting c false) = (b : Bool) × (o ≡ Some (Waiting c b))
IsAsOpen o w = o ≡ Some w

pub as_open : (w : Way) → IsAsOpen (Some w) w
as_open (Waiting c false) = (false, refl)
as_open w = refl

-- a call that is so far has this reply, or will get it
abbrev pub HasReply : Way → Reply ℕ → Type 0
HasReply (Waiting c b) r = ⊥
HasReply (Halfway x) r = x ≡ r
HasReply (Answered x) r = x ≡ r

abbrev pub with_calls : Stage → List (Option Way) → Stage
with_calls s calls = record s { calls = calls }

-- a move between two events: one party's call goes from one way to another, and leaves this queue. It does so wherever the call is more open, wherever the others are
pub record Step (s t : Stage) (m : Move) : Type 0 where
  pub party : ℕ
  pub old : Way
  pub new : Way
  pub queue : State ℕ
  pub at : IsAt s party old
  pub is : t ≡ moved s queue party (Some new)
  pub unanswered : (r : Reply ℕ) → old ≡ Answered r → ⊥
  pub keeps : (r : Reply ℕ) → HasReply old r → HasReply new r
  pub closed : s.queue.closed ≡ true → queue.closed ≡ true
  pub again : (calls : List (Option Way)) (o : Option Way) → slice_get calls party ≡ Some o → IsAsOpen o old → Makes (with_calls s calls) m (moved (with_calls s calls) queue party (Some new))

-- what waits still waits
waits : (c : Call ℕ) (b : Bool) (o : Option Way) → IsAsOpen o (Waiting c b) → (a : Bool) × (o ≡ Some (Waiting c a))
waits c true o is = (true, is)
waits c false o is = is

-- a step of a call that waits
of_waiting : {s t : Stage} {m : Move} (p : ℕ) (c : Call ℕ) (b : Bool) (new : Way) (Q : State ℕ) → IsAt s p (Waiting c b) → t ≡ moved s Q p (Some new) → (s.queue.closed ≡ true → Q.closed ≡ true)
    → ((calls : List (Option Way)) (o : Option Way) → slice_get calls p ≡ Some o → IsAsOpen o (Waiting c b) → Makes (with_calls s calls) m (moved (with_calls s calls) Q p (Some new))) → Step s t m
of_waiting p c b new Q at is closed again = record {
  party = p;
  old = Waiting c b;
  new = new;
  queue = Q;
  at = at;
  is = is;
  unanswered = λ r no. absurd (cc);
  keeps = λ r none. absurd none;
  closed = closed;
  again = again;
}

unfoldable pub step_of : (s t : Stage) (m : Move) → Makes s m t → Step s t m
unfolding of_waiting waits
step_of s t Move.Event made = absurd made
step_of s t (Move.See p r) (c, b, at, allows, is) = of_waiting p c b (Answered r) s.queue at is (λ closed. closed) (λ calls o here as_far. let w = waits c b o as_far in (c, w.0, here ∙ ap Some w.1, allows, refl))
step_of s t (Move.Act p r) (c, b, e, at, tells, fits, is) =
    of_waiting p c b (Answered r) (made e s.queue) at is (stays_closed s.queue (e ∷ []) (fits, tt)) (λ calls o here as_far. let w = waits c b o as_far in (c, w.0, e, here ∙ ap Some w.1, tells, fits, refl))
step_of s t (Move.Part p r) (c, x, y, at, tells, fits, steps, is) =
    of_waiting p c true (Halfway r) (made (effect.Front x y) s.queue) at is (stays_closed s.queue (effect.Front x y ∷ []) (fits, tt)) (λ calls o here as_far. (c, x, y, here ∙ ap Some as_far, tells, fits, steps, refl))
step_of s t (Move.Arrive p) (r, at, fits, steps, is) = record {
  party = p;
  old = Halfway r;
  new = Answered r;
  queue = made effect.Arrive s.queue;
  at = at;
  is = is;
  unanswered = λ x no. absurd (cc);
  keeps = λ x is. is;
  closed = stays_closed s.queue (effect.Arrive ∷ []) (fits, tt);
  again = λ calls o here as_far. (r, here ∙ ap Some as_far, fits, steps, refl);
}
step_of s t (Move.Displace p r) (c, b, x, y, at, tells, fits, shut, once, is) =
    let twice = stays_closed s.queue (effect.Front x y ∷ effect.Arrive ∷ []) (fits, ((y, refl), tt)) in
    of_waiting p c b (Answered r) (made effect.Arrive (made (effect.Front x y) s.queue)) at is twice (λ calls o here as_far. let w = waits c b o as_far in (c, w.0, x, y, here ∙ ap Some w.1, tells, fits, shut, once, refl))

-- the party's call is then on its new way, and those of the others where they were
pub is_there : {s t : Stage} {m : Move} (step : Step s t m) → IsAt t step.party step.new
is_there {s} step = subst (λ (u : Stage). IsAt u step.party step.new) (sym step.is) (set_here s.calls step.party (Some step.old) (Some step.new) step.at)

pub elsewhere : {s t : Stage} {m : Move} (step : Step s t m) (k : ℕ) → k ≢ step.party → slice_get t.calls k ≡ slice_get s.calls k
elsewhere {s} step k ne = ap (λ (u : Stage). slice_get u.calls k) step.is ∙ set_other s.calls step.party k (Some step.new) ne

-- the same move is made where another party has got on
pub beside : {s t : Stage} {m : Move} (step : Step s t m) (p : ℕ) (x : Option Way) → p ≢ step.party → Makes (moved s s.queue p x) m (moved t t.queue p x)
beside {s} {t} {m} step p x ne =
    let q = step.party in
    let o : Option Way = Some step.new in
    let there : slice_get (slice_set s.calls p x) q ≡ Some (Some step.old) = set_other s.calls p q x (λ same. ne (sym same)) ∙ step.at in
    let made = step.again (slice_set s.calls p x) (Some step.old) there (as_open step.old) in
    let M : Stage → Type 0 = λ u. Makes (moved s s.queue p x) m u in
    subst (λ (u : Stage). M (moved u u.queue p x)) (sym step.is) (subst (λ (l : List (Option Way)). M (record s { queue = step.queue; calls = l })) (set_comm s.calls p q x o ne) made)
