-- What a call does next, from where it stands and the answer to its last step.
use Rattle.std.specs.Prelude.{ℕ, Option, Some, None}
use Rattle.queue_steps.specs.{declared.model.Call.Call, declared.model.Reply.Reply as reply, Words.IsRing, SlotNext.slot_begin, SlotNext.slot_next, RingNext.ring_begin, RingNext.ring_next, RingNext.FitsRing, ChainNext.chain_begin, ChainNext.chain_next, ChainNext.FitsChain}
use Rattle.queue_steps.specs.declared.steps.types.{Kind.Kind, Kind.Kind as kind, Answer.Answer, Answer.Answer as answer, Local.Local, Local.Local as local, Next.Next, Next.Next as next}

-- the capacity of a queue of this kind
abbrev pub capacity_of : Kind → Option ℕ
capacity_of kind.Single = Some 1
capacity_of (kind.Bounded cap) = Some cap
capacity_of kind.Unbounded = None

abbrev pub first_local : {B : Type 0} → Call Unit → Local B
first_local c = local.Begin c

-- the answer fits what was asked, in a call on a queue of this kind
abbrev pub CanNext : {B : Type 0} → Kind → Local B → Answer B → Type 0
CanNext kind.Single (local.Begin c) answer.Start = Unit {0}
CanNext kind.Single (local.Slot l) (answer.Found word) = Unit {0}
CanNext (kind.Bounded cap) (local.Begin c) answer.Start = IsRing cap
CanNext (kind.Bounded cap) (local.Ring l) a = IsRing cap × FitsRing cap l a
CanNext kind.Unbounded (local.Begin c) answer.Start = Unit {0}
CanNext kind.Unbounded (local.Chain l) a = FitsChain l a
CanNext _ _ _ = ⊥

-- the last line stands for what `CanNext` excludes
abbrev pub next_of : {B : Type 0} → Kind → Local B → Answer B → Next B
next_of kind.Single (local.Begin c) answer.Start = slot_begin c
next_of kind.Single (local.Slot l) (answer.Found word) = slot_next l word
next_of (kind.Bounded cap) (local.Begin c) answer.Start = ring_begin cap c
next_of (kind.Bounded cap) (local.Ring l) a = ring_next cap l a
next_of kind.Unbounded (local.Begin c) answer.Start = chain_begin c
next_of kind.Unbounded (local.Chain l) a = chain_next l a
next_of _ _ _ = next.Reply (reply.Capacity None) None
