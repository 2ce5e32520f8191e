-- The wait-free calls on a chain end by their second step.
use Rattle.std.proofs.Common.{ℕ, ◌≡◌, true}
use Rattle.queue_laws.specs.Common.Vocabulary.{Call, Kind, Answer, Local}
use Rattle.queue_steps.specs.{declared.steps.chain.ChainLocal.ChainLocal as chain, Kinds.call_kind, Next.CanNext, Next.next_of, WaitFree.is_wait_free, WaitFree.EndsBefore, WaitFree.EndsWaitFree}

module _ (B : Type 0) where
  closing_ends : (a : Answer B) → CanNext Kind.Unbounded (Local.Chain chain.Closing) a → EndsBefore 2 Kind.Unbounded (next_of Kind.Unbounded (Local.Chain chain.Closing) a)
  closing_ends (Answer.Found n) can = tt
  closing_ends a can = absurd can

  closed_ends : (a : Answer B) → CanNext Kind.Unbounded (Local.Chain chain.ClosedTail) a → EndsBefore 2 Kind.Unbounded (next_of Kind.Unbounded (Local.Chain chain.ClosedTail) a)
  closed_ends (Answer.Found n) can = tt
  closed_ends a can = absurd can

  empty_ends : (h : ℕ) (a : Answer B) → CanNext Kind.Unbounded (Local.Chain (chain.EmptyTail h)) a → EndsBefore 1 Kind.Unbounded (next_of Kind.Unbounded (Local.Chain (chain.EmptyTail h)) a)
  empty_ends h (Answer.Found n) can = tt
  empty_ends h a can = absurd can

  empty_begins : (a : Answer B) → CanNext Kind.Unbounded (Local.Chain chain.EmptyHead) a → EndsBefore 2 Kind.Unbounded (next_of Kind.Unbounded (Local.Chain chain.EmptyHead) a)
  empty_begins (Answer.Found n) can = empty_ends n
  empty_begins a can = absurd can

  pub chain_wait_free : {T : Type 0} (c : Call T) → is_wait_free c ≡ true → EndsWaitFree B Kind.Unbounded (call_kind c)
  chain_wait_free Call.Close h = closing_ends
  chain_wait_free Call.IsClosed h = closed_ends
  chain_wait_free Call.IsEmpty h = empty_begins
  chain_wait_free c h = first_of (assumption, cc)
