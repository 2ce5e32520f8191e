-- The steps that a push and a pop take which find room, or an item, and meet no other call. The rest are steps like any other, and rare.
use Rattle.std.specs.Prelude.{ℕ, ◌+◌, ◌==◌, Bool, true, false, not, ◌&&◌, ◌||◌, bit_and, Some, is_some, nat_lt}
use Rattle.queue_steps.specs.{declared.sizes.TheConstants.LIMIT, declared.sizes.TheConstants.BLOCK_SLOTS, Words.position_of, Words.is_shut, Words.stamp_free, Words.stamp_filled, ChainWords.offset_of, ChainWords.items_before, ChainNext.is_last_slot}
use Rattle.queue_steps.specs.declared.steps.types.{Kind.Kind, Kind.Kind as kind, Answer.Answer, Answer.TheVariants.Found, Answer.TheVariants.Linked, Answer.TheVariants.Granted, Answer.TheVariants.Done, Local.Local, Local.Local as local}
use Rattle.queue_steps.specs.declared.steps.{ring.RingLocal.RingLocal, ring.RingLocal.RingLocal as ring, chain.TheConstants.WRITE, chain.TheConstants.READ, chain.TheConstants.DESTROY, chain.ChainLocal.ChainLocal, chain.ChainLocal.ChainLocal as chain}

-- whether a push that found this tail of a ring goes on to its slot
abbrev pub is_open_tail : ℕ → Bool
is_open_tail tail = not (is_shut tail) && not (position_of tail == LIMIT)

abbrev pub is_ring_common : {B : Type 0} → RingLocal → Answer B → Bool
is_ring_common (ring.PushTail p) (Found tail) = is_open_tail tail
is_ring_common (ring.PushStamp p tail) (Found stamp) = stamp == stamp_free (position_of tail)
is_ring_common (ring.Claiming p tail) (Found found) = found == tail
is_ring_common (ring.Filling p) Done = true
is_ring_common ring.Swapping Done = true
is_ring_common ring.PopHead (Found head) = true
is_ring_common (ring.PopStamp head) (Found stamp) = stamp == stamp_filled head
is_ring_common (ring.Taking head) (Found found) = found == head
is_ring_common ring.Emptying Done = true
is_ring_common _ _ = false

-- whether a push that found this tail of a chain goes on to the pushers' block
abbrev pub is_roomy_tail : ℕ → Bool
is_roomy_tail tail = not (is_shut tail) && (not (items_before (position_of tail) == LIMIT) && not (offset_of tail == BLOCK_SLOTS))

-- the slot is not the last one of its block
abbrev pub is_chain_common : {B : Type 0} → ChainLocal B → Answer B → Bool
is_chain_common (chain.PushTail p spare) (Found tail) = is_roomy_tail tail
is_chain_common (chain.PushBlock p tail spare) (Linked (Some block)) = is_some spare || not (is_last_slot tail)
is_chain_common (chain.Claiming p tail block spare) (Found found) = (found == tail) && not (is_last_slot tail)
is_chain_common (chain.Writing p spare) (Found before) = true
is_chain_common chain.PopHead (Found head) = not (offset_of head == BLOCK_SLOTS)
is_chain_common (chain.PopBlock head) (Linked block) = true
is_chain_common (chain.PopTail head (Some block)) (Found tail) = not (position_of tail == position_of head)
is_chain_common (chain.Taking head block) (Found found) = (found == head) && not (is_last_slot head)
is_chain_common (chain.Awaiting head block) (Found state) = not (bit_and state WRITE == 0) && not (is_last_slot head)
is_chain_common (chain.Reading block slot) (Found state) = bit_and state DESTROY == 0
is_chain_common _ _ = false

-- whether the walk over a block goes on: this slot is read, and not the last one that the walk looks at
abbrev pub is_chain_walk : {B : Type 0} → ChainLocal B → Answer B → Bool
is_chain_walk (chain.Walking block slot) (Found state) = not (bit_and state READ == 0) && nat_lt (slot + 2) BLOCK_SLOTS
is_chain_walk _ _ = false

-- whether a call passes from block to block, where its step is no common one: a push asks for the next block, claims the last slot and lays the block; a pop takes the last slot's position, follows to the next block and waits for its item
abbrev pub is_chain_passing : {B : Type 0} → ChainLocal B → Answer B → Bool
is_chain_passing (chain.PushBlock p tail spare) (Linked (Some block)) = true
is_chain_passing (chain.Asking p tail (Some block)) (Granted fresh) = true
is_chain_passing (chain.Claiming p tail block spare) (Found found) = found == tail
is_chain_passing (chain.Laying p tail block fresh) Done = true
is_chain_passing (chain.Opening p tail block fresh) (Found before) = true
is_chain_passing (chain.Chaining p tail block fresh) Done = true
is_chain_passing (chain.Taking head block) (Found found) = found == head
is_chain_passing (chain.Following head block) (Linked (Some after)) = true
is_chain_passing (chain.Peeking head block after) (Linked further) = true
is_chain_passing (chain.Passing head block more) Done = true
is_chain_passing (chain.Entering head block) Done = true
is_chain_passing (chain.Awaiting head block) (Found state) = not (bit_and state WRITE == 0)
is_chain_passing _ _ = false

-- every step on one slot is a common one
abbrev pub is_common_of : {B : Type 0} → Kind → Local B → Answer B → Bool
is_common_of kind.Single l a = true
is_common_of (kind.Bounded cap) (local.Begin c) a = true
is_common_of (kind.Bounded cap) (local.Ring l) a = is_ring_common l a
is_common_of kind.Unbounded (local.Begin c) a = true
is_common_of kind.Unbounded (local.Chain l) a = is_chain_common l a
is_common_of _ _ _ = false

-- a walk goes on. Queues with a capacity have none
abbrev pub is_walk_of : {B : Type 0} → Kind → Local B → Answer B → Bool
is_walk_of kind.Unbounded (local.Chain l) a = is_chain_walk l a
is_walk_of _ _ _ = false

-- a call passes from block to block. Queues with a capacity have none
abbrev pub is_passing_of : {B : Type 0} → Kind → Local B → Answer B → Bool
is_passing_of kind.Unbounded (local.Chain l) a = is_chain_passing l a
is_passing_of _ _ _ = false
