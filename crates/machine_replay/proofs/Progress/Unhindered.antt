-- A call that nobody hinders replies soon, on a queue of any kind.
use Rattle.std.proofs.Common.{◌≡◌, ℕ, false, IsSome, List, ◌∷◌}
use Rattle.std.proofs.lemmas.Bool.{ltb-false}
use Rattle.machine_replay.specs.{Vocabulary.Kind, Vocabulary.MAX_CAPACITY, Vocabulary.Event, Vocabulary.Told, Conforms.capacity_of, Replays.CanReplay, Replays.is_too_large, Waits.CallsWait}
use Rattle.machine_replay.specs.Progress.{AppendsReply, HalfDoneNeverWaits, HalfDoneTakesNone, TakesReply, IsLeftToIt, IsSilent, SilenceIsShort, UnhinderedCallsReply}
use Rattle.machine_replay.proofs.{Chain.Waits.chain_waits, Ring.Waits.ring_waits, Slot.Waits.slot_waits, Slot.Stretch.slot_appends, Slot.Stretch.slot_takes, Slot.Stretch.slot_never_waits, Slot.Stretch.slot_takes_none, Slot.Stretch.slot_unhindered, Ring.Stretch.ring_appends, Ring.Stretch.ring_takes}
use Rattle.machine_replay.proofs.{Ring.Stretch.ring_never_waits, Ring.Stretch.ring_takes_none, Ring.Stretch.ring_unhindered, Chain.Taken.chain_takes, Chain.Appended.chain_appends, Chain.Early.chain_unhindered}

pub unhindered_calls : {T : Type 0} → UnhinderedCallsReply T
unhindered_calls {T} Kind.Single can small = slot_unhindered T
unhindered_calls (Kind.Bounded n) can small = ring_unhindered n (can, ltb-false MAX_CAPACITY n small)
unhindered_calls {T} Kind.Unbounded can small = chain_unhindered T

pub half_done_calls : (T : Type 0) → HalfDoneNeverWaits T
half_done_calls T Kind.Single can small capped = slot_never_waits T
half_done_calls T (Kind.Bounded n) can small capped = ring_never_waits T n (can, ltb-false MAX_CAPACITY n small)
half_done_calls T Kind.Unbounded can small capped = cc

left_alone : {T : Type 0} (p : ℕ) (es : List (Event T)) (ts : List (Told T)) → IsSilent ts → IsLeftToIt p es ts
left_alone p (e ∷ es) (t ∷ ts) silent = (λ own. silent.1, λ other. silent.0, left_alone p es ts silent.2)
left_alone p es ts silent = tt

takes_none : (T : Type 0) (k : Kind) → CanReplay k → is_too_large k ≡ false → IsSome (capacity_of k) → HalfDoneTakesNone T k
takes_none T Kind.Single can small capped = slot_takes_none T
takes_none T (Kind.Bounded n) can small capped = ring_takes_none T n (can, ltb-false MAX_CAPACITY n small)
takes_none T Kind.Unbounded can small capped = cc

pub silence_is_short : (T : Type 0) → SilenceIsShort T
silence_is_short T = record {
  few = λ k can small parties p past stretch unshowing silent nobody mine. unhindered_calls k can small parties p past stretch unshowing mine (λ q ne. nobody q) (left_alone p stretch _ silent);
  none = takes_none T;
}

pub appends_reply : (T : Type 0) → AppendsReply T
appends_reply T Kind.Single can small = slot_appends T
appends_reply T (Kind.Bounded n) can small = ring_appends T n (can, ltb-false MAX_CAPACITY n small)
appends_reply T Kind.Unbounded can small = chain_appends T

pub takes_reply : (T : Type 0) → TakesReply T
takes_reply T Kind.Single can small = slot_takes T
takes_reply T (Kind.Bounded n) can small = ring_takes T n (can, ltb-false MAX_CAPACITY n small)
takes_reply T Kind.Unbounded can small = chain_takes T

pub calls_wait : (T : Type 0) → CallsWait T
calls_wait T = record { slot = slot_waits T; ring = ring_waits T; chain = chain_waits T }
