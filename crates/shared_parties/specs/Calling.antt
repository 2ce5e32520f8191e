-- A call of a party on its way, between two of its steps, and what is so of it, whatever the queue is made of.
use Rattle.std.specs.Prelude.{◌≡◌, ◌≢◌, ℕ, ◌<◌, ◌≤◌, Bool, true, false, List, [], ◌∷◌, ◌++◌, length, Option, Some, None}
use mathlib.Core.{Option.some, List.IsPrefix}
use lib.ListN.{get_elem?}
use Rattle.atomic_table.specs.Table.{rest}
use Rattle.queue_laws.specs.Common.{Vocabulary.Call, Vocabulary.Reply, Vocabulary.Effect, Vocabulary.Kind, Vocabulary.Op, Vocabulary.Touch, Vocabulary.Answer, Vocabulary.Next, Effects.IsBetween, Effects.Touches, Moments.SeenIn, Moments.seen_by, Stand.Stand, Stand.stand}
use Rattle.queue_steps.specs.{State.State, Effect.after, Kinds.call_kind, Kinds.call_value, Kinds.filled, Next.capacity_of, Next.first_local, Next.next_of, Parties.StandAt, Replies.IsRightAt, Replies.Allows, Replies.Tells}
use Rattle.shared_parties.specs.{declared.known.Known.Known, declared.known.InCall.InCall, Known.party}

-- What a kind of queue is to the calls on it: which steps they take, its cells with the state of the queue that they stand for, where a call stands at them,
-- what a step of one party leaves of them for the others, which slots a party has, that a party has no part in the cells, and which block a reply may give up
pub record CallsOf (T : Type 0) : Type 1 where
  pub kind : Kind
  pub Cells : Type 0
  pub Ok : Cells → Type 0
  pub queue_of : Cells → State T
  pub At : Cells → ℕ → List (State T) → Bool → Stand T → Type 0
  pub Passes : ℕ → Cells → Cells → Type 0
  pub Lent : Cells → ℕ → List (ℕ × Option T) → Type 0
  pub Idle : Cells → ℕ → Type 0
  pub Gives : Option ℕ → Type 0

abbrev pub cap_of : {T : Type 0} → CallsOf T → Option ℕ
cap_of K = capacity_of K.kind

-- the state after some history between s and h
abbrev pub IsMoment : {T : Type 0} → Option ℕ → List (Effect T) → List (Effect T) → State T → Type 0
IsMoment {T} cap s h m = (u : List (Effect T)) × IsPrefix s u × IsPrefix u h × (m ≡ after cap u)

-- each of the states is one
abbrev pub AreMoments : {T : Type 0} → Option ℕ → List (Effect T) → List (Effect T) → List (State T) → Type 0
AreMoments cap s h [] = Unit {0}
AreMoments cap s h (m ∷ ms) = IsMoment cap s h m × AreMoments cap s h ms

-- the queue was open after some history between s and h, of at most n effects
abbrev pub WasOpen : {T : Type 0} → Option ℕ → List (Effect T) → List (Effect T) → ℕ → Type 0
WasOpen {T} cap s h n = (u : List (Effect T)) × IsPrefix s u × IsPrefix u h × (length u ≤ n) × ((after cap u).closed ≡ false)

-- what a call with these effects at these places knows of the queue being open: at one of its own steps so far, or before its front
abbrev pub Opened : {T : Type 0} → Option ℕ → List (Effect T) → List (Effect T) → Bool → List (Effect T) → List ℕ → Type 0
Opened cap s h was [] ps = was ≡ true → WasOpen cap s h (length h)
Opened cap s h was (Effect.Front old v ∷ es) (p ∷ ps) = WasOpen cap s h p
Opened cap s h was _ _ = Unit {0}

-- no item arrives behind a front before the call's own
abbrev pub Waits : {T : Type 0} → List (Effect T) → List (Effect T) → List ℕ → Type 0
Waits h (Effect.Front old v ∷ []) (p ∷ []) = (k : ℕ) → p < k → ¬ (get_elem? h k ≡ some Effect.Arrive)
Waits h (Effect.Front old v ∷ es) (p ∷ q ∷ ps) = (k : ℕ) → p < k → k < q → ¬ (get_elem? h k ≡ some Effect.Arrive)
Waits h _ _ = Unit {0}

abbrev pub stand_of : {T : Type 0} → InCall T → Stand T
stand_of c = record { local = c.local; touch = c.touch; op = c.op; carried = c.carried; call = c.call; effects = c.effects }

-- where the call c of the party j stands, at the cells g and a history h; k is what the party knows
pub record Standing {T : Type 0} (K : CallsOf T) (g : K.Cells) (h : List (Effect T)) (j : ℕ) (k : Known T) (c : InCall T) : Type 0 where
  pub ms : List (State T)
  pub was : Bool
  pub here : K.At g j ms was (stand_of c)
  pub lent : K.Lent g j c.lends
  pub moments : AreMoments (cap_of K) c.since h ms
  pub opened : Opened (cap_of K) c.since h was c.effects c.places
  pub waits : Waits h c.effects c.places
  pub stand : StandAt h (length c.since) c.places c.effects
  pub since : IsPrefix c.since k.seen
  pub knows : k ≡ party (cap_of K) k.seen (c.before ++ c.places) c.share

-- the slots that a seat has once the one that is touched has what was carried, and what is carried then
abbrev pub touched_list : {T : Type 0} → Touch → Option T → List (ℕ × Option T) → List (ℕ × Option T)
touched_list Touch.Nothing v xs = xs
touched_list (Touch.Put i) v xs = (i, v) ∷ rest xs
touched_list (Touch.Swap i) v xs = (i, v) ∷ rest xs
touched_list (Touch.Take i) v xs = (i, v) ∷ rest xs

abbrev pub lies_in : {T : Type 0} → List (ℕ × Option T) → Option T
lies_in [] = None
lies_in (x ∷ xs) = x.1

abbrev pub handed_by : {T : Type 0} → Touch → Option T → List (ℕ × Option T) → Option T
handed_by Touch.Nothing v xs = v
handed_by _ v xs = lies_in xs

-- a slot that is touched is the one that the seat has
abbrev pub HasTouched : {T : Type 0} → Touch → List (ℕ × Option T) → Type 0
HasTouched {T} t xs = (i : ℕ) → Touches t i → (y : Option T) × (xs ≡ (i, y) ∷ [])

-- the call of the party j goes on from a known place, or ends with a reply that is right, and the party has no part in the cells then
abbrev pub NextOk : {T : Type 0} (K : CallsOf T) → K.Cells → ℕ → List (State T) → Bool → Next ℕ → Option T → Call T → List (Effect T) → Type 0
NextOk K g j ms was (Next.Step l t o) v k es = K.At g j ms was (stand l t o v k es)
NextOk {T} K g j ms was (Next.Reply x spare) v k es =
    K.Idle g j × K.Gives spare × ((y : Reply T) × (filled x v ≡ Some y) × Tells k y es × (es ≡ [] → SeenIn ms (Allows k y)))

-- What a kind owes of its calls: no step of another party takes away what a call knows, nor a slot that its party has; who has no part in the cells has no slot;
-- behind a front that was taken off an item is coming; and a slot that is touched is the one that the party has
pub record CallLaws {T : Type 0} (K : CallsOf T) : Type 0 where
  pub at_stays : (g s : K.Cells) (who j : ℕ) (ms : List (State T)) (was : Bool) (c : Stand T)
      → K.Ok g → K.Ok s → j ≢ who → K.Passes who g s → K.At g j ms was c → K.At s j (seen_by (K.queue_of s) ms) was c
  pub lent_stays : (g s : K.Cells) (who j : ℕ) (xs : List (ℕ × Option T)) → j ≢ who → K.Passes who g s → K.Lent g j xs → K.Lent s j xs
  pub idle_stays : (g s : K.Cells) (who j : ℕ) → j ≢ who → K.Passes who g s → K.Idle g j → K.Idle s j
  pub idle_none : (g : K.Cells) (j : ℕ) (xs : List (ℕ × Option T)) → K.Idle g j → K.Lent g j xs → xs ≡ []
  pub idle_lent : (g : K.Cells) (j : ℕ) → K.Idle g j → K.Lent g j []
  pub coming : (g : K.Cells) (j : ℕ) (ms : List (State T)) (was : Bool) (c : Stand T)
      → K.Ok g → K.At g j ms was c → IsBetween c.effects → (x : T) × ((K.queue_of g).coming ≡ Some x)
  pub touches : (g : K.Cells) (j : ℕ) (ms : List (State T)) (was : Bool) (c : Stand T) (xs : List (ℕ × Option T))
      → K.At g j ms was c → K.Lent g j xs → HasTouched c.touch xs

-- what a call on queues of this kind does first
abbrev pub first_of : {T : Type 0} → Kind → Call T → Next ℕ
first_of k c = next_of k (first_local (call_kind c)) Answer.Start

-- that step of a party that has no part in the cells stands, and is one of those that may be done; or the reply is right, whatever the state is
abbrev pub Opens : {T : Type 0} (K : CallsOf T) → (Op ℕ → Type 0) → Call T → Next ℕ → Type 0
Opens K May c (Next.Step l t o) = (t ≡ Touch.Nothing) × May o × ((g : K.Cells) (j : ℕ) → K.Idle g j → K.At g j [] false (stand l t o (call_value c) c []))
Opens {T} K May c (Next.Reply x spare) =
    (spare ≡ None) × ((y : Reply T) × (filled x (call_value c) ≡ Some y) × Tells c y [] × ((m : State T) → m.cap ≡ cap_of K → IsRightAt m c y))
