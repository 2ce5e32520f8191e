-- What a step did to the queue, told from where its call stood and what its operation found.
use Rattle.std.specs.Prelude.{ℕ, ◌+◌, ◌==◌, if◌then◌else◌, Option, Some, None}
use Rattle.queue_steps.specs.{SlotNext.is_marked, Words.position_of, Words.is_shut, declared.steps.types.Answer.Answer, declared.steps.types.Answer.Answer as answer, declared.steps.types.Kind.Kind, declared.steps.types.Kind.Kind as kind, declared.steps.types.Local.Local}
use Rattle.queue_steps.specs.declared.steps.{types.Local.Local as local, slot.SlotLocal.SlotLocal, slot.SlotLocal.SlotLocal as slot, ring.RingLocal.RingLocal, ring.RingLocal.RingLocal as ring, chain.ChainLocal.ChainLocal, chain.ChainLocal.ChainLocal as chain}
use Rattle.machine_memory.specs.declared.types.EffectKind.{EffectKind, EffectKind as effect}

-- the effect of a step on one slot: the exchange that wins, and the close of an open queue
abbrev pub slot_effect : SlotLocal → ℕ → Option EffectKind
slot_effect slot.Pushing found = if found == 0 then Some effect.Append else None
slot_effect (slot.Forcing seen) found =
    if is_marked found then None
    else (if found == seen then (if seen == 0 then Some effect.Append else Some effect.Replace) else None)
slot_effect (slot.Popping seen) found = if found == seen then Some effect.Take else None
slot_effect slot.Closing found = if is_marked found then None else Some effect.Close
slot_effect _ found = None

-- the effect of a step on a ring of n slots: the exchange of the tail or the head that wins, the tail that moves on, and the mark on an open tail
abbrev pub ring_effect : ℕ → RingLocal → ℕ → Option EffectKind
ring_effect n (ring.Claiming p tail) found = if found == tail then Some effect.Append else None
ring_effect n (ring.Displacing tail) found = if found + n == position_of tail then Some effect.Front else None
ring_effect n (ring.Arriving tail) found = Some effect.Arrive
ring_effect n (ring.ClosingAtLimit p) found = if is_shut found then None else Some effect.SelfClose
ring_effect n (ring.Taking head) found = if found == head then Some effect.Take else None
ring_effect n ring.Closing found = if is_shut found then None else Some effect.Close
ring_effect n _ found = None

-- the effect of a step on a chain: the exchange of the tail or the head that wins, and the mark on an open tail
abbrev pub chain_effect : {B : Type 0} → ChainLocal B → ℕ → Option EffectKind
chain_effect (chain.Claiming p tail block spare) found = if found == tail then Some effect.Append else None
chain_effect (chain.ClosingAtLimit p spare) found = if is_shut found then None else Some effect.SelfClose
chain_effect (chain.Taking head block) found = if found == head then Some effect.Take else None
chain_effect chain.Closing found = if is_shut found then None else Some effect.Close
chain_effect _ found = None

abbrev pub effect_of : {B : Type 0} → Kind → Local B → Answer B → Option EffectKind
effect_of k (local.Slot l) (answer.Found found) = slot_effect l found
effect_of (kind.Bounded n) (local.Ring l) (answer.Found found) = ring_effect n l found
effect_of kind.Unbounded (local.Chain l) (answer.Found found) = chain_effect l found
effect_of k _ _ = None
