-- A call that changes nothing takes such steps alone.
use Rattle.std.specs.Prelude.{ℕ, ◌-◌, ◌==◌, Bool, true, false, refl, Some, None, if◌then◌else◌}
use Rattle.queue_steps.specs.{declared.model.Call.Call, declared.model.Call.Call as call, declared.model.Reply.Reply, RingNext.ends, RingNext.loads, RingNext.ring_next, RingNext.FitsRing}
use Rattle.queue_steps.specs.declared.steps.types.{Answer.Answer, Answer.Answer as answer, Kind.Kind, Kind.Kind as kind, Local.Local, Local.Local as local, Word.Word as word}
use Rattle.queue_steps.specs.declared.steps.{slot.SlotLocal.SlotLocal as slot, looks.Look.Look, ring.RingLocal.RingLocal as ring, ring.RingLocal.RingLocal, chain.ChainLocal.ChainLocal, chain.ChainLocal.ChainLocal as chain}
use Rattle.queue_steps.specs.{Words.position_of, Words.is_shut, ChainWords.items_before, Looks.IsLook, Looks.reply_of_look, LookNext.IsLookLocal, LookNext.IsLookNext, ChainNext.chain_next, ChainNext.FitsChain, Next.CanNext, Next.next_of, Next.first_local}
use Rattle.queue_steps.specs.ChainNext as unbounded

pub look_next-first : (B : Type 0) (k : Kind) (c : Call Unit) → IsLook c → IsLookNext (next_of {B = B} k (first_local c) answer.Start)
look_next-first B k (call.Push v) h = absurd h
look_next-first B k (call.ForcePush v) h = absurd h
look_next-first B k call.Pop h = absurd h
look_next-first B k call.Close h = absurd h
look_next-first B kind.Single look h = assumption
look_next-first B (kind.Bounded n) look h = assumption
look_next-first B kind.Unbounded look h = assumption

-- items that were counted while the tail moved are counted again
look_again : (B : Type 0) (b : Bool) (r : Reply Unit) (g : Look) → IsLookNext {B = B} (if b then ends r else loads (ring.CountTail g) word.Tail)
look_again B true r g = refl
look_again B false r g = (refl, tt, refl)

look_next-ring : {B : Type 0} (n : ℕ) (l : RingLocal) (a : Answer B) → FitsRing n l a → IsLookLocal {B = B} (local.Ring l) → IsLookNext (ring_next n l a)
look_next-ring n ring.Closing a fits is = absurd is
look_next-ring {B} n (ring.CountAgain g t h) (answer.Found found) fits is = look_again B (found == t) (reply_of_look (Some n) (position_of t - h) (is_shut t) g) g
look_next-ring n l (answer.Found found) fits is = first_of (assumption, cc)
look_next-ring n l _ fits is = cc

look_again-chain : (B : Type 0) (b : Bool) (r : Reply Unit) (g : Look) → IsLookNext {B = B} (if b then unbounded.ends r else unbounded.loads (chain.CountTail g) word.Tail)
look_again-chain B true r g = refl
look_again-chain B false r g = (refl, tt, refl)

look_next-chain : {B : Type 0} (l : ChainLocal B) (a : Answer B) → FitsChain l a → IsLookLocal {B = B} (local.Chain l) → IsLookNext (chain_next l a)
look_next-chain chain.Closing a fits is = absurd is
look_next-chain {B} (chain.CountAgain g t h) (answer.Found found) fits is = look_again-chain B (found == t) (reply_of_look None (items_before (position_of t) - items_before (position_of h)) (is_shut t) g) g
look_next-chain l (answer.Found found) fits is = first_of (assumption, cc)
look_next-chain l _ fits is = cc

pub look_next : {B : Type 0} (k : Kind) (l : Local B) (a : Answer B) → CanNext k l a → IsLookLocal l → IsLookNext (next_of k l a)
look_next k (local.Begin c) a can h = absurd h
look_next kind.Single (local.Slot (slot.Looking l)) (answer.Found word) can h = refl
look_next kind.Single (local.Slot l) (answer.Found word) can h = absurd h
look_next (kind.Bounded n) (local.Ring l) a can h = look_next-ring n l a can.1 h
look_next kind.Unbounded (local.Chain l) a can h = look_next-chain l a can h
look_next k l a can h = absurd can
