-- The steps of the calls that change nothing: they load words and touch no slot.
use Rattle.std.specs.Prelude.{◌≡◌, true, None}
use Rattle.queue_steps.specs.declared.steps.types.{Local.Local, Local.Local as local, Next.Next, Next.Next as next, Op.Op, Op.Op as op, Touch.Touch as touch, Word.Word as word}
use Rattle.queue_steps.specs.{declared.steps.slot.SlotLocal.SlotLocal as slot, declared.steps.ring.RingLocal.RingLocal as ring, declared.steps.chain.ChainLocal.ChainLocal as chain, CallAt.is_ring_rest, CallAt.is_chain_rest}

-- a load of a word that is in no block
abbrev pub IsLoad : {B : Type 0} → Op B → Type 0
IsLoad (op.Load (word.State b slot)) = ⊥
IsLoad (op.Load w) = Unit {0}
IsLoad _ = ⊥

-- where a call that changes nothing may stand: at no place of a push, of a pop or of a close
abbrev pub IsLookLocal : {B : Type 0} → Local B → Type 0
IsLookLocal (local.Slot (slot.Looking l)) = Unit {0}
IsLookLocal (local.Ring ring.Closing) = ⊥
IsLookLocal (local.Ring l) = is_ring_rest l ≡ true
IsLookLocal (local.Chain chain.Closing) = ⊥
IsLookLocal (local.Chain l) = is_chain_rest l ≡ true
IsLookLocal _ = ⊥

-- the next step changes nothing, and a reply gives nothing up
abbrev pub IsLookNext : {B : Type 0} → Next B → Type 0
IsLookNext (next.Reply r spare) = spare ≡ None
IsLookNext (next.Step l t o) = (t ≡ touch.Nothing) × IsLoad o × IsLookLocal l
