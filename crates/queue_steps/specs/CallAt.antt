-- Which call stands at a place of a ring or of a chain: a push, a pop, or one of the rest.
use Rattle.std.specs.Prelude.{Bool, true, false, not, ◌&&◌}
use Rattle.queue_steps.specs.declared.steps.{ring.RingLocal.RingLocal, ring.RingLocal.RingLocal as ring, chain.ChainLocal.ChainLocal, chain.ChainLocal.ChainLocal as chain}

abbrev pub is_ring_push : RingLocal → Bool
is_ring_push (ring.PushTail p) = true
is_ring_push (ring.PushStamp p tail) = true
is_ring_push (ring.Claiming p tail) = true
is_ring_push (ring.Filling p) = true
is_ring_push (ring.PushHead tail) = true
is_ring_push (ring.Displacing tail) = true
is_ring_push (ring.Arriving tail) = true
is_ring_push ring.Swapping = true
is_ring_push (ring.ClosingAtLimit p) = true
is_ring_push _ = false

abbrev pub is_ring_pop : RingLocal → Bool
is_ring_pop ring.PopHead = true
is_ring_pop (ring.PopStamp head) = true
is_ring_pop (ring.Taking head) = true
is_ring_pop ring.Emptying = true
is_ring_pop (ring.PopTail head) = true
is_ring_pop _ = false

-- a call that looks at the ring, or a close
abbrev pub is_ring_rest : RingLocal → Bool
is_ring_rest l = not (is_ring_push l) && not (is_ring_pop l)

abbrev pub is_chain_push : {B : Type 0} → ChainLocal B → Bool
is_chain_push (chain.PushTail p spare) = true
is_chain_push (chain.PushBlock p tail spare) = true
is_chain_push (chain.Asking p tail block) = true
is_chain_push (chain.Installing p tail fresh) = true
is_chain_push (chain.Showing p tail block) = true
is_chain_push (chain.Claiming p tail block spare) = true
is_chain_push (chain.Laying p tail block fresh) = true
is_chain_push (chain.Opening p tail block fresh) = true
is_chain_push (chain.Chaining p tail block fresh) = true
is_chain_push (chain.Writing p spare) = true
is_chain_push (chain.ClosingAtLimit p spare) = true
is_chain_push _ = false

abbrev pub is_chain_pop : {B : Type 0} → ChainLocal B → Bool
is_chain_pop chain.PopHead = true
is_chain_pop (chain.PopBlock head) = true
is_chain_pop (chain.PopTail head block) = true
is_chain_pop (chain.Taking head block) = true
is_chain_pop (chain.Following head block) = true
is_chain_pop (chain.Peeking head block after) = true
is_chain_pop (chain.Passing head block more) = true
is_chain_pop (chain.Entering head block) = true
is_chain_pop (chain.Awaiting head block) = true
is_chain_pop (chain.Reading block slot) = true
is_chain_pop (chain.Walking block slot) = true
is_chain_pop (chain.Destroying block slot) = true
is_chain_pop _ = false

-- a call that looks at the chain, or a close
abbrev pub is_chain_rest : {B : Type 0} → ChainLocal B → Bool
is_chain_rest l = not (is_chain_push l) && not (is_chain_pop l)
