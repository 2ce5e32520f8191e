-- Where a call on a chain begins.
use Rattle.std.proofs.Common.{ℕ, ◌≡◌, true, false, None, Some, List, [], refl}
use Rattle.queue_steps.specs.{State.State, Kinds.call_kind, Kinds.call_value, Kinds.filled, Looks.has_steps, Replies.IsRightAt, Replies.Tells, ChainNext.chain_begin}
use Rattle.queue_laws.specs.{Common.Vocabulary.Call, Common.Vocabulary.Reply, Common.Vocabulary.Next, Common.Vocabulary.Op, Common.Vocabulary.Touch, Common.Vocabulary.Word, Common.Vocabulary.PushKind, Common.Stand.stand, Chain.ChainCells.Chain, Chain.ChainCells.HoldsOnly, Chain.ChainCells.Nothing}
use Rattle.queue_laws.specs.Chain.{ChainPasses.spare_in, ChainAt.At, ChainAt.push_tail, ChainAt.pop_head, ChainAt.count_tail, ChainAt.empty_head, ChainAt.closing, ChainAt.closed_tail}

-- the operation is on one of the two positions
abbrev pub OnPosition : Op ℕ → Type 0
OnPosition (Op.Load Word.Head) = Unit {0}
OnPosition (Op.Load Word.Tail) = Unit {0}
OnPosition (Op.Or Word.Tail x) = Unit {0}
OnPosition _ = ⊥

-- The call begins with this: with a step at a position, without a slot and a spare block, where any party stands that holds nothing; or with a reply that is
-- right at any state without a capacity
abbrev pub Begins : {A : Type 0} → Call A → Next ℕ → Type 0
Begins {A} k (Next.Step l t o) =
    (has_steps None k ≡ true) × (t ≡ Touch.Nothing) × (spare_in l ≡ None) × OnPosition o
    × ((c : Chain A) (who : ℕ) (ms : List (State A)) → HoldsOnly c who Nothing → At c who ms (stand l t o (call_value k) k []))
Begins {A} k (Next.Reply x spare) =
    (has_steps None k ≡ false) × (spare ≡ None) × ((y : Reply A) × (filled x (call_value k) ≡ Some y) × Tells k y [] × ((m : State A) → m.cap ≡ None → IsRightAt m k y))

pub at_begun : {A : Type 0} (k : Call A) → Begins k (chain_begin (call_kind k))
at_begun (Call.Push v) = (refl, refl, refl, tt, λ c who ms none. push_tail PushKind.Push v None none tt)
at_begun (Call.ForcePush v) = (refl, refl, refl, tt, λ c who ms none. push_tail PushKind.Force v None none tt)
at_begun Call.Pop = (refl, refl, refl, tt, λ c who ms none. pop_head none)
at_begun Call.Close = (refl, refl, refl, tt, λ c who ms none. closing none)
at_begun Call.IsClosed = (refl, refl, refl, tt, λ c who ms none. closed_tail none)
at_begun Call.IsEmpty = (refl, refl, refl, tt, λ c who ms none. empty_head none)
at_begun Call.IsFull = (refl, refl, (Reply.IsFull false, refl, refl, λ m open_ended. rw open_ended refl))
at_begun Call.Capacity = (refl, refl, (Reply.Capacity None, refl, refl, λ m open_ended. rw open_ended refl))
at_begun look = (refl, refl, refl, tt, λ c who ms none. count_tail _ refl none)
