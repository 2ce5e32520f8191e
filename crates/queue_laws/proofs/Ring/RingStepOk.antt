-- What is owed of each step of a call on a ring.
use Rattle.std.proofs.Common.{ℕ, ◌+◌, ◌<◌, ◌≡◌, ◌≢◌, ◌==◌, ◌||◌, not, ◌∙◌, inr, Bool, true, false, Option, Some, None, List, [], ◌∷◌, refl, sym, ap, subst, bit_or}
use Rattle.queue_steps.specs.{State.State, Kinds.filled, Next.CanNext, Next.next_of, WaitFree.is_wait_free, Replies.Tells, Replies.IsRightAt, Words.position_of, Words.is_shut, declared.steps.ring.RingLocal.RingLocal as ring}
use Rattle.queue_laws.specs.Common.Vocabulary.{Call, Reply, Effect, Kind, Word, Op, Touch, Answer, Local, Next, MARK}
use Rattle.queue_laws.specs.{Common.Moments.SeenIn, Common.Effects.Leads, Common.Effects.with_effect, Common.Effects.Whether, Common.Operations.op_word, Ring.RingCells.Ring, Ring.RingCells.queue_of, Ring.RingCells.RingOk, Ring.RingCells.HoldsNone, Ring.RingPasses.Passes, Ring.RingWords.Codes}
use Rattle.queue_laws.specs.{Ring.RingTransitions.marked, Ring.RingAt.SawTail, Ring.RingAt.At, Common.Stand.Stand, Common.Stand.stand}
use Rattle.queue_laws.specs.Ring.RingShared.{Shared, HasWord, CanTouch, CanOperate, answered, operated, touched, handed}
use Rattle.queue_laws.proofs.{Common.Operations.has_word, Ring.RingPasses.passes_same, Ring.RingPasses.passes_marked, Common.Tails.mark_tail, Ring.RingTransitions.mark_ok, Ring.RingHands.Shift, Ring.RingHands.Rests, Ring.RingRanks.rank}

-- no other party holds a slot
abbrev pub IsQuiet : {A : Type 0} → Ring A → ℕ → Type 0
IsQuiet r who = (other : ℕ) → other ≢ who → HoldsNone r.cells other

-- no other party holds a slot, or the call is a wait-free one, which needs nobody
abbrev pub IsCalm : {A : Type 0} → Ring A → ℕ → Call A → Type 0
IsCalm r who k = is_wait_free k ≡ false → IsQuiet r who

module _ {A : Type 0} (cap : ℕ) (r s : Ring A) (who : ℕ) (ms : List (State A)) (was : Bool) where
  -- the call goes on with fewer steps before it, if it is calm, or ends with a reply that is right, and holds nothing
  abbrev pub NextOk : Next ℕ → Option A → Call A → List (Effect A) → ℕ → Type 0
  NextOk (Next.Step l t o) v k es n = At cap s who ms was (stand l t o v k es) × (IsCalm r who k → rank cap s l < n)
  NextOk (Next.Reply x spare) v k es n =
      HoldsNone s.cells who × (spare ≡ None) × ((y : Reply A) × (filled x v ≡ Some y) × Tells k y es × (es ≡ [] → SeenIn ms (λ m. IsRightAt m k y)))

module _ {A : Type 0} (cap : ℕ) (r : Ring A) (who : ℕ) (ms : List (State A)) (was : Bool) where
  -- so after a step that leaves the ring as it is
  abbrev pub Stays : Next ℕ → Option A → Call A → List (Effect A) → ℕ → Type 0
  Stays = NextOk cap r r who (queue_of cap r ∷ ms) (was || not r.closed)

-- The effect of the step at this local state that got this answer: the exchange of the tail or the head that wins, the tail that moves on, and
-- the mark on an open tail. A front leaves only by a call that has seen the queue open
abbrev pub IsEffect : {A : Type 0} → ℕ → Bool → Local ℕ → Answer ℕ → Option (Effect A) → Type 0
IsEffect {A} cap was (Local.Ring (ring.Claiming d tail)) (Answer.Found found) e = Whether (found == tail) ((v : A) × (e ≡ Some (Effect.Append v))) (e ≡ None)
IsEffect {A} cap was (Local.Ring (ring.Displacing tail)) (Answer.Found found) e = Whether (found + cap == position_of tail) ((x : A × A) × (e ≡ Some (Effect.Front x.0 x.1)) × (was ≡ true)) (e ≡ None)
IsEffect cap was (Local.Ring (ring.Arriving tail)) (Answer.Found found) e = e ≡ Some Effect.Arrive
IsEffect cap was (Local.Ring (ring.ClosingAtLimit d)) (Answer.Found found) e = Whether (is_shut found) (e ≡ None) (e ≡ Some Effect.SelfClose)
IsEffect {A} cap was (Local.Ring (ring.Taking head)) (Answer.Found found) e = Whether (found == head) ((x : A) × (e ≡ Some (Effect.Take x))) (e ≡ None)
IsEffect cap was (Local.Ring ring.Closing) (Answer.Found found) e = Whether (is_shut found) (e ≡ None) (e ≡ Some Effect.Close)
IsEffect cap was (Local.Ring l) a e = e ≡ None
IsEffect cap was _ a e = ⊥

-- the next step of the call can be taken, and is a step of the queue that leaves the ring right
pub record StepOk {A : Type 0} (cap : ℕ) (r : Ring A) (who : ℕ) (s : Shared A) (ms : List (State A)) (was : Bool) (c : Stand A) : Type 0 where
  pub after : Ring A
  pub e : Option (Effect A)
  pub touches : CanTouch s c.touch
  pub operates : CanOperate (touched s c.touch c.carried) c.op
  pub goes_on : CanNext (Kind.Bounded cap) c.local (answered (touched s c.touch c.carried) c.op)
  pub ok : RingOk cap after
  pub codes : Codes cap after (operated (touched s c.touch c.carried) c.op)
  pub told : IsEffect cap was c.local (answered (touched s c.touch c.carried) c.op) e
  pub makes : Leads (queue_of cap r) e (queue_of cap after)
  pub passes : Passes who r after
  pub shift : Shift cap who r after c.touch c.carried
  pub goes : NextOk cap r after who (queue_of cap after ∷ ms) (was || not after.closed) (next_of (Kind.Bounded cap) c.local (answered (touched s c.touch c.carried) c.op)) (handed s c.touch c.carried) c.call (with_effect c.effects e) (rank cap r c.local)

module _ {A : Type 0} {cap : ℕ} {r : Ring A} {who : ℕ} {s : Shared A} {ms : List (State A)} {was : Bool} (ok : RingOk cap r) (codes : Codes cap r s) where
  -- a step that changes nothing
  pub still : {l : Local ℕ} {o : Op ℕ} {v : Option A} {k : Call A} {es : List (Effect A)}
      → CanOperate s o → operated s o ≡ s → CanNext (Kind.Bounded cap) l (answered s o) → IsEffect {A = A} cap was l (answered s o) None
      → Stays cap r who ms was (next_of (Kind.Bounded cap) l (answered s o)) v k es (rank cap r l)
      → StepOk cap r who s ms was (stand l Touch.Nothing o v k es)
  still operates same goes_on told goes = record {
    after = r;
    e = None;
    touches = tt;
    operates = operates;
    goes_on = goes_on;
    ok = ok;
    codes = subst (λ x. Codes cap r x) (sym same) codes;
    told = told;
    makes = refl;
    passes = passes_same who r;
    shift = Rests refl refl;
    goes = goes;
  }

  -- the mark of the tail, whether it closes the ring or finds it closed
  pub marks : {l : Local ℕ} {v : Option A} {k : Call A} {es : List (Effect A)} (e : Option (Effect A))
      → CanNext (Kind.Bounded cap) l (Answer.Found s.tail) → IsEffect cap was l (Answer.Found s.tail) e → Leads (queue_of cap r) e (queue_of cap (marked r))
      → NextOk cap r (marked r) who (queue_of cap (marked r) ∷ ms) (was || not (marked r).closed) (next_of (Kind.Bounded cap) l (Answer.Found s.tail)) v k (with_effect es e) (rank cap r l)
      → StepOk cap r who s ms was (stand l Touch.Nothing (Op.Or Word.Tail MARK) v k es)
  marks e goes_on told makes goes = record {
    after = marked r;
    e = e;
    touches = tt;
    operates = tt;
    goes_on = goes_on;
    ok = mark_ok cap r ok;
    codes = record {
      head = codes.head;
      tail = ap (λ n. bit_or n MARK) codes.tail ∙ mark_tail r.tail r.closed;
      stamped = codes.stamped;
      slotted = codes.slotted;
      stamp = codes.stamp;
      slot = codes.slot;
    };
    told = told;
    makes = makes;
    passes = passes_marked who r;
    shift = Rests refl refl;
    goes = goes;
  }

-- the operation is on a word that the ring has
pub operates_on : {A : Type 0} (s : Shared A) (o : Op ℕ) → CanOperate s o → HasWord s (op_word o)
operates_on s (Op.Add w x) can = can.0
operates_on s (Op.And w x) can = absurd can
operates_on s o can = has_word (HasWord s) o can

-- a mark that finds the ring closed
pub marks_closed : {A : Type 0} (cap : ℕ) (r : Ring A) → r.closed ≡ true → queue_of cap (marked r) ≡ queue_of cap r
marks_closed cap r c = ap (λ b. queue_of cap (record r { closed = b })) (sym c)

pub opened_now : (was closed : Bool) → closed ≡ false → (was || not closed) ≡ true
opened_now false true e = cc
opened_now was closed e = refl

pub opened_still : (was c : Bool) → was ≡ true → (was || c) ≡ true
opened_still true c e = refl
opened_still false c e = cc

-- what a push saw it still knows after a step of its own that changed nothing
pub saw_own : {A : Type 0} (cap : ℕ) (r : Ring A) (t : ℕ) (ms : List (State A)) (was c : Bool) (q : State A) → SawTail cap r t ms was → SawTail cap r t (q ∷ ms) (was || c)
saw_own cap r t ms was c q saw = record { unshut = saw.unshut; below = saw.below; behind = saw.behind; moment = inr saw.moment; opened = opened_still was c saw.opened }
