-- One slot: how the word and the slot stand for the queue, where each call stands, and what is owed of each step.
use Rattle.std.specs.Prelude.{◌≡◌, ℕ, ◌==◌, Bool, true, false, Option, Some, None, List, [], ◌∷◌, bit_or}
use Rattle.queue_steps.specs.{State.State, Kinds.filled, Next.next_of, Replies.IsRightAt, Replies.Tells, SlotNext.is_marked, Looks.call_of_look, declared.steps.types.Word.TheVariants.Lock}
use Rattle.queue_steps.specs.declared.steps.slot.SlotLocal.TheVariants.{Pushing, Pushed, Forcing, Forced, Popping, Popped, Closing, Looking}
use Rattle.queue_laws.specs.Common.Vocabulary.{Call, Reply, Effect, Kind, Op, Touch, Answer, Look, Local, SlotLocal, PushKind, Next, LOCKED, PUSHED, CLOSED, UNLOCKED}
use Rattle.queue_laws.specs.{Common.Moments.SeenIn, Common.Effects.Leads, Common.Effects.with_effect, Common.Effects.Whether, Common.Stand.Stand, Common.Stand.stand, Common.Stand.empty_handed, Common.Stand.brings, Slot.SlotShared.one_slot, Slot.SlotShared.answered, Slot.SlotShared.operated}
use Rattle.queue_laws.specs.Slot.{SlotShared.touched, SlotShared.handed, SlotHolder.SlotHolder, SlotHolder.Nobody, SlotHolder.Filling, SlotHolder.Swapping, SlotHolder.Taking}

-- the word, by its bits `LOCKED`, `PUSHED` and `CLOSED`
abbrev pub code : Bool → Bool → Bool → ℕ
code false false false = 0
code true false false = 1
code false true false = 2
code true true false = 3
code false false true = 4
code true false true = 5
code false true true = 6
code true true true = 7

-- the word and the slot that stand for the items and the flag, by what the lock's holder is about to do
pub data Codes {T : Type 0} : ℕ → Option T → SlotHolder T → List T → Bool → Type 0 where
  free_empty : (c : Bool) → Codes (code false false c) None Nobody [] c
  free_full : (c : Bool) (x : T) → Codes (code false true c) (Some x) Nobody (x ∷ []) c
  filling : (c : Bool) (v : T) → Codes (code true true c) None (Filling v) (v ∷ []) c
  swapping : (c : Bool) (old v : T) → Codes (code true true c) (Some old) (Swapping old v) (v ∷ []) c
  taking : (c : Bool) (x : T) → Codes (code true false c) (Some x) (Taking x) [] c

-- a call that touches the slot, and then unlocks it
abbrev pub unlocks : {T : Type 0} → SlotLocal → (ℕ → Touch) → Option T → Call T → List (Effect T) → Stand T
unlocks l touch v k es = stand (Local.Slot l) (touch 0) (Op.And Lock UNLOCKED) v k es

-- where a call stands, and what it holds
pub data At {T : Type 0} : Stand T → SlotHolder T → Type 0 where
  push_try : (v : T) → At (brings (Local.Slot Pushing) (Op.Exchange Lock 0 (bit_or LOCKED PUSHED)) PushKind.Push v) Nobody
  push_put : (v : T) → At (unlocks Pushed Touch.Put (Some v) (Call.Push v) (Effect.Append v ∷ [])) (Filling v)
  force_try_empty : (v : T) → At (brings (Local.Slot (Forcing 0)) (Op.Exchange Lock 0 (bit_or LOCKED PUSHED)) PushKind.Force v) Nobody
  force_try_full : (v : T) → At (brings (Local.Slot (Forcing 2)) (Op.Exchange Lock 2 (bit_or LOCKED PUSHED)) PushKind.Force v) Nobody
  force_put_empty : (v : T) → At (unlocks (Forced 0) Touch.Put (Some v) (Call.ForcePush v) (Effect.Append v ∷ [])) (Filling v)
  force_put_full : (old v : T) → At (unlocks (Forced 2) Touch.Swap (Some v) (Call.ForcePush v) (Effect.Replace old v ∷ [])) (Swapping old v)
  pop_try : (d : Bool) → At (empty_handed (Local.Slot (Popping (code false true d))) (Op.Exchange Lock (code false true d) (code true false d)) Call.Pop) Nobody
  pop_take : (x : T) → At (unlocks Popped Touch.Take None Call.Pop (Effect.Take x ∷ [])) (Taking x)
  close_try : At (empty_handed (Local.Slot Closing) (Op.Or Lock CLOSED) Call.Close) Nobody
  look_at : (l : Look) → At (empty_handed (Local.Slot (Looking l)) (Op.Load Lock) (call_of_look l)) Nobody

-- what a party has of the lock: all that is held, or nothing
pub data Share {T : Type 0} : SlotHolder T → SlotHolder T → Type 0 where
  idle : (h : SlotHolder T) → Share Nobody h
  fills : (v : T) → Share (Filling v) (Filling v)
  swaps : (old v : T) → Share (Swapping old v) (Swapping old v)
  takes : (x : T) → Share (Taking x) (Taking x)

-- how the lock passes: this party's share and the whole stay, or this party changes what was nobody's or its own
pub data Passes {T : Type 0} : SlotHolder T → SlotHolder T → SlotHolder T → SlotHolder T → Type 0 where
  stays : (own h : SlotHolder T) → Passes own h own h
  changes : (h g : SlotHolder T) → Passes h h g g

-- the state of a queue of one slot
abbrev pub single : {T : Type 0} → List T → Bool → ℕ → State T
single items c n = record { items = items; cap = Some 1; closed = c; coming = None; accepted = n }

-- the call goes on from a known place, or ends with a reply that is right, and holds nothing
abbrev pub NextOk : {T : Type 0} → Next ℕ → Option T → SlotHolder T → Call T → List (Effect T) → List (State T) → Type 0
NextOk (Next.Step l t o) v own k es ms = At (stand l t o v k es) own
NextOk {T} (Next.Reply x spare) v own k es ms =
    (own ≡ Nobody) × (spare ≡ None) × ((y : Reply T) × (filled x v ≡ Some y) × Tells k y es × (es ≡ [] → SeenIn ms (λ m. IsRightAt m k y)))

-- the effect of the step at this local state that got this answer: the exchange that wins, and the mark on an open queue
abbrev pub IsEffect : {T : Type 0} → Local ℕ → Answer ℕ → Option (Effect T) → Type 0
IsEffect {T} (Local.Slot Pushing) (Answer.Found found) e = Whether (found == 0) ((v : T) × (e ≡ Some (Effect.Append v))) (e ≡ None)
IsEffect {T} (Local.Slot (Forcing seen)) (Answer.Found found) e =
    Whether (is_marked found) (e ≡ None) (Whether (found == seen) (Whether (seen == 0) ((v : T) × (e ≡ Some (Effect.Append v))) ((x : T × T) × (e ≡ Some (Effect.Replace x.0 x.1)))) (e ≡ None))
IsEffect {T} (Local.Slot (Popping seen)) (Answer.Found found) e = Whether (found == seen) ((x : T) × (e ≡ Some (Effect.Take x))) (e ≡ None)
IsEffect (Local.Slot Closing) (Answer.Found found) e = Whether (is_marked found) (e ≡ None) (e ≡ Some Effect.Close)
IsEffect (Local.Slot l) a e = e ≡ None
IsEffect _ a e = ⊥

module _ {T : Type 0} (word : ℕ) (slot : Option T) (own h : SlotHolder T) (items : List T) (c : Bool) (n : ℕ) where
  -- the step of a call is a step of the queue
  pub record StepOk (x : Stand T) (ms : List (State T)) : Type 0 where
    pub word' : ℕ
    pub slot' : Option T
    pub items' : List T
    pub c' : Bool
    pub n' : ℕ
    pub e : Option (Effect T)
    pub own' : SlotHolder T
    pub h' : SlotHolder T
    pub leaves : operated (touched (one_slot word slot) x.touch x.carried) x.op ≡ one_slot word' slot'
    pub stands : Codes word' slot' h' items' c'
    pub told : IsEffect x.local (answered (touched (one_slot word slot) x.touch x.carried) x.op) e
    pub makes : Leads (single items c n) e (single items' c' n')
    pub lands : NextOk (next_of Kind.Single x.local (answered (touched (one_slot word slot) x.touch x.carried) x.op)) (handed (one_slot word slot) x.touch x.carried) own' x.call (with_effect x.effects e) (single items' c' n' ∷ ms)
    pub passes : Passes own h own' h'
