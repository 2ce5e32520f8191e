-- Displacements of a closed queue, each in one step, go ahead of what was done since the close, and of the close.
use Rattle.std.proofs.Common.{◌≡◌, ◌≢◌, ◌∙◌, ◌⊎◌, inl, inr, ℕ, ◌+◌, ◌<◌, Bool, true, false, not, Option, Some, None, List, [], ◌∷◌, length, refl, ap, sym, subst, arith}
use Rattle.std.specs.Prelude.{slice_get, slice_set}
use Rattle.std.proofs.lemmas.List.{set_comm}
use Rattle.queue_steps.specs.{State.State, State.fills, State.is_slot_cap, Effect.Fits, Effect.made, Effect.rest, Replies.Allows, Replies.Tells}
use Rattle.queue_steps.specs.declared.{model.Call.Call, model.Reply.Reply, model.Effect.Effect, model.Effect.Effect as effect, sizes.TheConstants.LIMIT}
use Rattle.queue_laws.proofs.Moment.{Closed.Agrees, Closed.Fit, Closed.held, Closed.many, Closed.held_arrive, Closed.held_front, Closed.held_less, Settling.Sound, Settling.sound_on, Answering.allowed_there}
use Rattle.history_check.specs.declared.recorded.{Event.Event, Event.TheVariants.Begin, Event.TheVariants.End, Move.Move, Way.Way, Way.TheVariants.Waiting, Way.TheVariants.Answered}
use Rattle.history_check.specs.Legal.{Stage, IsAt, moved, MayRecord, recorded, Makes, Takes, Goes}
use Rattle.history_check.proofs.Moves.{set_other, set_same}

-- the queue once the old front has given way to the item
abbrev pub displaced : ℕ → ℕ → State ℕ → State ℕ
displaced old v Q = made effect.Arrive (made (effect.Front old v) Q)

-- the party's call displaces in one step, in a queue that was open when it began
abbrev pub Displaces : Stage → ℕ → Reply ℕ → Stage → Type 0
Displaces s p r t = (c : Call ℕ) × (old v : ℕ) × IsAt s p (Waiting c true) × Tells c r (effect.Front old v ∷ effect.Arrive ∷ []) × Fits (effect.Front old v) s.queue × (t ≡ moved s (displaced old v s.queue) p (Some (Answered r)))

-- the calls of these parties do so, one after another
abbrev pub AllDisplace : List (ℕ × Reply ℕ) → Stage → Stage → Type 0
AllDisplace [] s t = t ≡ s
AllDisplace (d ∷ ds) s t = (u : Stage) × Displaces s d.0 d.1 u × AllDisplace ds u t

-- the events are taken from a stage to which some calls come that displace first
abbrev pub GoesAhead : Stage → List Event → Type 0
GoesAhead s es = (ds : List (ℕ × Reply ℕ)) × (t : Stage) × (ns : List Move) × AllDisplace ds s t × Goes t es ns

-- nothing is halfway
pub record Calm (s : Stage) : Type 0 where
  pub at_once : s.at_once ≡ true
  pub none : s.queue.coming ≡ None
  pub sound : Sound s.queue

-- while the queue is open, these are moves
in_order : (ds : List (ℕ × Reply ℕ)) (s t : Stage) (es : List Event) (ns : List Move) → s.queue.closed ≡ false → s.at_once ≡ true → AllDisplace ds s t → Goes t es ns → (ms : List Move) × Goes s es ms
in_order [] s t es ns free once is g = (ns, subst (λ (u : Stage). Goes u es ns) is g)
in_order (d ∷ ds) s t es ns free once (u, (c, old, v, at, tells, fits, is), others) g =
    let more = in_order ds u t es ns (ap (λ (x : Stage). x.queue.closed) is ∙ free) (ap (λ (x : Stage). x.at_once) is ∙ once) others g in
    (Move.Displace d.0 d.1 ∷ more.0, (u, es, ((c, true, old, v, at, tells, fits, free, once, is), refl), more.1))

pub all_in_order : (s : Stage) (es : List Event) → s.queue.closed ≡ false → s.at_once ≡ true → GoesAhead s es → (ms : List Move) × Goes s es ms
all_in_order s es free once (ds, t, ns, displace, g) = in_order ds s t es ns free once displace g

-- two parties go on in either order, to one queue
pub swapped : (s : Stage) (P Q R : State ℕ) (p q : ℕ) (o x : Option Way) → p ≢ q → moved (moved s P q o) R p x ≡ moved (moved s Q p x) R q o
swapped s P Q R p q o x ne = ap (λ (l : List (Option Way)). record s { queue = R; calls = l }) (set_comm s.calls q p o x (λ same. ne (sym same)))

-- a displacement that comes behind the move may come before it
abbrev Before : Stage → Move → List Event → Stage → List Event → ℕ → Reply ℕ → Type 0
Before s m es t fs p r = (u : Stage) × Displaces s p r u × Takes u m es t fs

-- the party that displaces is another one than one that is not in such a call
other_party : (s : Stage) (q p : ℕ) (o : Option Way) (c : Call ℕ) → (o ≡ Some (Waiting c true) → ⊥) → slice_get (slice_set s.calls q o) p ≡ Some (Some (Waiting c true)) → p ≢ q
other_party s q p o c not there same = not (sym (set_same s.calls q o (Some (Waiting c true)) (rw same at there)))

-- what is recorded before it
before_event : (s t : Stage) (e : Event) (p : ℕ) (r : Reply ℕ) → s.queue.closed ≡ true → MayRecord s e → Displaces (recorded s e) p r t → (u : Stage) × Displaces s p r u × MayRecord u e × (t ≡ recorded u e)
before_event s t (Begin q k) p r shut may (c, old, v, there, tells, fits, is) =
    let o : Option Way = Some (Waiting k (not s.queue.closed)) in
    let x : Option Way = Some (Answered r) in
    let ne = other_party s q p o c (λ same. let no : not s.queue.closed ≡ false = ap not shut in cc) there in
    let free = set_other s.calls p q x (λ same. ne (sym same)) ∙ may in
    (moved s (displaced old v s.queue) p x, (c, old, v, sym (set_other s.calls q p o ne) ∙ there, tells, fits, refl), free, is ∙ swapped s s.queue s.queue (displaced old v s.queue) p q o x ne)
before_event s t (End q k) p r shut may (c, old, v, there, tells, fits, is) =
    let o : Option Way = None in
    let x : Option Way = Some (Answered r) in
    let ne = other_party s q p o c (λ same. cc) there in
    let ended = set_other s.calls p q x (λ same. ne (sym same)) ∙ may in
    (moved s (displaced old v s.queue) p x, (c, old, v, sym (set_other s.calls q p o ne) ∙ there, tells, fits, refl), ended, is ∙ swapped s s.queue s.queue (displaced old v s.queue) p q o x ne)

-- a queue that has lost an item is not full
taken_fills : (cap : Option ℕ) (n m : ℕ) → n ≡ m + 1 → Fit cap n → fills cap m ≡ true → ⊥
taken_fills None n m one fit full = cc
taken_fills (Some c) n m one fit full = grind arith

not_full : (Q : State ℕ) (x : ℕ) → Sound Q → Q.coming ≡ None → Fits (effect.Take x) Q → fills Q.cap (length (rest Q.items)) ≡ true → ⊥
not_full Q x sound none (others, is) full =
    let one = held_less Q x others is in
    let zero : many Q.coming ≡ 0 = ap many none in
    taken_fills Q.cap (held Q) (length (rest Q.items)) (omega (arith, one, zero)) sound.room full

-- nor does one displace that has accepted all it may
not_below : (Q : State ℕ) → Q.accepted ≡ LIMIT → is_slot_cap Q.cap ≡ false → (is_slot_cap Q.cap ≡ true) ⊎ (Q.accepted < LIMIT) → ⊥
not_below Q all other (inl slot) = cc
not_below Q all other (inr less) = omega (arith, all, less)

-- what a call finds right at a full closed queue is right once an old front has given way
still_right : (Q : State ℕ) (old v : ℕ) (k : Call ℕ) (w : Reply ℕ) → Sound Q → Q.coming ≡ None → Q.closed ≡ true → Fits (effect.Front old v) Q → Allows k w Q → Allows k w (displaced old v Q)
still_right Q old v k w sound none shut fits allows =
    let next : List (Effect ℕ) = effect.Front old v ∷ [] in
    let arrived = held_arrive (made (effect.Front old v) Q) in
    let fronted = held_front Q old v fits in
    let agrees : Agrees next Q (displaced old v Q) = record {
      cap = refl;
      closed = refl;
      coming = refl;
      count = omega (arith, arrived, fronted);
      same = λ any. absurd (elim any [ inl is ↦ cc | inr free ↦ cc ]);
    } in
    allowed_there next Q (displaced old v Q) sound agrees k w allows (λ glance. none)

-- a call of a closed queue has no effect before it, and none but its close before that
module _ (s : Stage) (calm : Calm s) (q : ℕ) (k : Call ℕ) (b : Bool) (w : Reply ℕ) (here : IsAt s q (Waiting k b)) where
  abbrev After : State ℕ → Stage
  After P = moved s P q (Some (Answered w))

  before_see : (t : Stage) (p : ℕ) (r : Reply ℕ) → s.queue.closed ≡ true → Allows k w s.queue → Displaces (After s.queue) p r t → (u : Stage) × Displaces s p r u × Makes u (Move.See q w) t
  before_see t p r shut allows (c, old, v, there, tells, fits, is) =
      let o : Option Way = Some (Answered w) in
      let x : Option Way = Some (Answered r) in
      let ne = other_party s q p o c (λ same. cc) there in
      let stays = set_other s.calls p q x (λ same. ne (sym same)) ∙ here in
      let right = still_right s.queue old v k w calm.sound calm.none shut fits allows in
      (moved s (displaced old v s.queue) p x, (c, old, v, sym (set_other s.calls q p o ne) ∙ there, tells, fits, refl), (k, b, stays, right, is ∙ swapped s s.queue s.queue (displaced old v s.queue) p q o x ne))

  before_act : (t : Stage) (p : ℕ) (r : Reply ℕ) (e : Effect ℕ) → Tells k w (e ∷ []) → Fits e s.queue → (made e s.queue).closed ≡ true → Displaces (After (made e s.queue)) p r t → (u : Stage) × Displaces s p r u × Makes u (Move.Act q w) t
  before_act t p r (effect.Append x) its may shut d = absurd (let free = may.0 in cc)
  before_act t p r (effect.Take x) its may shut (c, old, v, there, tells, fits, is) = absurd (not_full s.queue x calm.sound calm.none may fits.1)
  before_act t p r (effect.Replace x y) its may shut d = absurd (let free = may.1 in cc)
  before_act t p r (effect.Front x y) its may shut (c, old, v, there, tells, fits, is) = absurd (let none = fits.2 in cc)
  before_act t p r effect.Arrive its may shut d = absurd (let some = may.1 in let none = calm.none in cc)
  before_act t p r effect.SelfClose its may shut (c, old, v, there, tells, fits, is) = absurd (not_below s.queue may.2 may.1 fits.3)
  before_act t p r effect.Close its may shut (c, old, v, there, tells, fits, is) =
      let o : Option Way = Some (Answered w) in
      let x : Option Way = Some (Answered r) in
      let ne = other_party s q p o c (λ same. cc) there in
      let stays = set_other s.calls p q x (λ same. ne (sym same)) ∙ here in
      let P : State ℕ = made effect.Close s.queue in
      (moved s (displaced old v s.queue) p x, (c, old, v, sym (set_other s.calls q p o ne) ∙ there, tells, fits, refl), (k, b, effect.Close, stays, its, may, is ∙ swapped s P s.queue (displaced old v P) p q o x ne))

closed_event : (s : Stage) (e : Event) → (recorded s e).queue.closed ≡ true → s.queue.closed ≡ true
closed_event s (Begin p c) shut = shut
closed_event s (End p r) shut = shut

before_move : (m : Move) (s x t : Stage) (es fs : List Event) (p : ℕ) (r : Reply ℕ) → Calm s → x.queue.closed ≡ true → Takes s m es x fs → Displaces x p r t → Before s m es t fs p r
before_move Move.Event s x t [] fs p r calm shut never d = absurd never
before_move Move.Event s x t (e ∷ es) fs p r calm shut (may, is, same) d =
    let closed = closed_event s e (ap (λ (y : Stage). y.queue.closed) (sym is) ∙ shut) in
    let first = before_event s t e p r closed may (subst (λ (y : Stage). Displaces y p r t) is d) in
    (first.0, first.1, (first.2, first.3, same))
before_move (Move.See q w) s x t es fs p r calm shut ((k, b, here, allows, is), same) d =
    let first = before_see s calm q k b w here t p r (ap (λ (y : Stage). y.queue.closed) (sym is) ∙ shut) allows (subst (λ (y : Stage). Displaces y p r t) is d) in
    (first.0, first.1, (first.2, same))
before_move (Move.Act q w) s x t es fs p r calm shut ((k, b, e, here, tells, fits, is), same) d =
    let first = before_act s calm q k b w here t p r e tells fits (ap (λ (y : Stage). y.queue.closed) (sym is) ∙ shut) (subst (λ (y : Stage). Displaces y p r t) is d) in
    (first.0, first.1, (first.2, same))
before_move (Move.Part q w) s x t es fs p r calm shut ((k, old, v, here, tells, fits, steps, is), same) d = absurd (let once = calm.at_once in cc)
before_move (Move.Arrive q) s x t es fs p r calm shut ((w, here, fits, steps, is), same) d = absurd (let once = calm.at_once in cc)
before_move (Move.Displace q w) s x t es fs p r calm shut ((k, b, old, v, here, tells, fits, free, once, is), same) d = absurd (let still : x.queue.closed ≡ false = ap (λ (y : Stage). y.queue.closed) is ∙ free in cc)

-- a stage after a displacement is calm too
calm_on : (s t : Stage) (p : ℕ) (r : Reply ℕ) → Calm s → Displaces s p r t → Calm t
calm_on s t p r calm (c, old, v, there, tells, fits, is) =
    let sound = sound_on effect.Arrive (made (effect.Front old v) s.queue) (v, refl) (sound_on (effect.Front old v) s.queue fits calm.sound) in
    subst Calm (sym is) (record { at_once = calm.at_once; none = refl; sound = sound })

shut_on : (s t : Stage) (p : ℕ) (r : Reply ℕ) → s.queue.closed ≡ true → Displaces s p r t → t.queue.closed ≡ true
shut_on s t p r shut (c, old, v, there, tells, fits, is) = ap (λ (y : Stage). y.queue.closed) is ∙ shut

-- and all displacements that come behind the move may come before it
all_before : (ds : List (ℕ × Reply ℕ)) (m : Move) (s x t : Stage) (es fs : List Event) → Calm s → x.queue.closed ≡ true → Takes s m es x fs → AllDisplace ds x t → (u : Stage) × AllDisplace ds s u × Takes u m es t fs
all_before [] m s x t es fs calm shut takes is = (s, refl, subst (λ (y : Stage). Takes s m es y fs) (sym is) takes)
all_before (d ∷ ds) m s x t es fs calm shut takes (y, displaces, others) =
    let one = before_move m s x y es fs d.0 d.1 calm shut takes displaces in
    let more = all_before ds m one.0 y t es fs (calm_on s one.0 d.0 d.1 calm one.1) (shut_on x y d.0 d.1 shut displaces) one.2 others in
    (more.0, (one.0, one.1, more.1), more.2)

open_or_shut : (b : Bool) → (b ≡ false) ⊎ (b ≡ true)
open_or_shut true = inr refl
open_or_shut false = inl refl

-- so what goes ahead behind a move goes ahead before it
pub goes_before : (m : Move) (s t : Stage) (es fs : List Event) → Calm s → t.at_once ≡ true → Takes s m es t fs → GoesAhead t fs → GoesAhead s es
goes_before m s t es fs calm once takes (ds, u, ns, displace, g) = elim (open_or_shut t.queue.closed) [
  | inl free ↦ let now = in_order ds t u fs ns free once displace g in ([], s, m ∷ now.0, refl, (t, fs, takes, now.1))
  | inr shut ↦ let first = all_before ds m s t u es fs calm shut takes displace in (ds, first.0, m ∷ ns, first.1, (u, fs, first.2, g))
]
