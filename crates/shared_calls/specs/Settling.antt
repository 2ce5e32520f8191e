-- A call that goes on until it has had no effect yet where it stands, or ends: how far it is from that.
use Rattle.std.specs.Prelude.{ℕ, suc, if◌then◌else◌}
use Rattle.queue_laws.specs.{Common.Vocabulary.Kind, Common.Vocabulary.Local, Common.Vocabulary.Next, Common.Vocabulary.RingLocal, Common.Vocabulary.ChainLocal, Chain.ChainEarly.IsBound}
use Rattle.queue_steps.specs.declared.steps.{ring.RingLocal.RingLocal as ring, chain.ChainLocal.ChainLocal as chain}
use Rattle.shared_calls.specs.Early.{is_early}

-- of a call on a ring that has had its effect: how many steps it takes at most until it replies
abbrev pub ring_left : RingLocal → ℕ
ring_left (ring.Arriving t) = 2
ring_left _ = 1

module _ {B : Type 0} where
  -- on a chain, also of one that is to show the first block
  abbrev pub chain_left : ChainLocal B → ℕ
  chain_left (chain.Laying d tail block spare) = 4
  chain_left (chain.Opening d tail block spare) = 3
  chain_left (chain.Chaining d tail block spare) = 2
  chain_left _ = 1

  -- on a queue of any kind
  abbrev pub steps_left : Local B → ℕ
  steps_left (Local.Ring l) = ring_left l
  steps_left (Local.Chain l) = chain_left l
  steps_left _ = 1

  -- the same by what it is to do next, with the reply for a step
  abbrev pub left_at : Next B → ℕ
  left_at (Next.Step l t o) = if is_early l then 0 else suc (steps_left l)
  left_at (Next.Reply r spare) = 1

  -- a pop on a chain may have to wait for its item
  abbrev pub MayWait : Kind → Next B → Type 0
  MayWait Kind.Unbounded (Next.Step l t o) = IsBound l
  MayWait _ _ = ⊥
