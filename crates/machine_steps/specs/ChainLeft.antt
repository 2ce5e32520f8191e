-- The list that a chain of blocks holds: what its calls in progress have claimed is done first.
use Rattle.std.specs.Prelude.{ℕ, zero, suc, ◌==◌, if◌then◌else◌, Option, Some, None, List, [], ◌∷◌, ◌++◌, length, bit_and}
use Rattle.std.specs.Option.{option_to_list}
use Rattle.queue_steps.specs.{ChainWords.offset_of, declared.steps.types.Local.Local, declared.steps.types.Local.Local as local, declared.steps.types.Op.Op, declared.steps.types.Touch.Touch, declared.steps.types.Touch.Touch as touch, declared.steps.chain.TheConstants.READ}
use Rattle.queue_steps.specs.declared.steps.chain.ChainLocal.{ChainLocal, ChainLocal as chain}
use Rattle.machine_memory.specs.{declared.blocks.BlockPlace.BlockPlace, declared.calls.Running.Running, Blocks.BlockState, Blocks.block_of, Blocks.places_in, Blocks.behind, Blocks.put_state, Blocks.put_item, Blocks.put_next, Blocks.without, SharedMemory.block_touched}

-- a push that claimed the last slot of a block writes it, and links the block that it lays
abbrev pub laid : {T : Type 0} → ℕ → ℕ → ℕ → Option T → List (Option (BlockState T)) → List (Option (BlockState T))
laid tail block fresh v bs = put_next (put_item bs block (offset_of tail) v) block (Some fresh)

-- a pop reads the slot that it claimed: its item is no more in the list
abbrev pub marked : {T : Type 0} → ℕ → ℕ → List (Option (BlockState T)) → List (Option (BlockState T))
marked block slot bs = put_state bs block slot READ

-- the blocks once a call has touched the slot of a block that its next step touches
abbrev pub reached : {T : Type 0} → Touch → Option ℕ → Option T → List (Option (BlockState T)) → List (Option (BlockState T))
reached (touch.Put i) (Some b) v bs = put_item bs b i v
reached (touch.Take i) (Some b) v bs = marked b i bs
reached _ _ v bs = bs

-- the blocks once a call that stands here has done what it has claimed; its next operation names a state of this block, if of any
abbrev pub settled_at : {T : Type 0} → ChainLocal ℕ → Touch → Option ℕ → Option T → List (Option (BlockState T)) → List (Option (BlockState T))
settled_at (chain.Laying p tail block fresh) t b v bs = laid tail block fresh v bs
settled_at (chain.Opening p tail block fresh) t b v bs = laid tail block fresh v bs
settled_at (chain.Chaining p tail block fresh) t b v bs = laid tail block fresh v bs
settled_at (chain.Following head block) t b v bs = marked block (offset_of head) bs
settled_at (chain.Peeking head block after) t b v bs = marked block (offset_of head) bs
settled_at (chain.Passing head block more) t b v bs = marked block (offset_of head) bs
settled_at (chain.Entering head block) t b v bs = marked block (offset_of head) bs
settled_at (chain.Awaiting head block) t b v bs = marked block (offset_of head) bs
settled_at _ t b v bs = reached t b v bs

abbrev pub settled_by : {T : Type 0} → Local ℕ → Touch → Op ℕ → Option T → List (Option (BlockState T)) → List (Option (BlockState T))
settled_by (local.Chain l) t o v bs = settled_at l t (block_touched o) v bs
settled_by _ t o v bs = bs

-- the blocks once every call in progress has done what it has claimed
abbrev pub settled_blocks : {T : Type 0} → List (Option (Running T)) → List (Option (BlockState T)) → List (Option (BlockState T))
settled_blocks [] bs = bs
settled_blocks (None ∷ calls) bs = settled_blocks calls bs
settled_blocks (Some r ∷ calls) bs = settled_blocks calls (settled_by r.local r.touch r.op r.carried bs)

-- the poppers' block once a call that stands here has shown the first block
abbrev pub front_at : Local ℕ → Option ℕ → Option ℕ
front_at (local.Chain (chain.Showing p tail block)) front = Some block
front_at _ front = front

abbrev pub settled_front : {T : Type 0} → List (Option (Running T)) → Option ℕ → Option ℕ
settled_front [] front = front
settled_front (None ∷ calls) front = settled_front calls front
settled_front (Some r ∷ calls) front = settled_front calls (front_at r.local front)

-- the item of a place that is not read
abbrev pub unread_in : {T : Type 0} → BlockPlace T → List T
unread_in p = if bit_and p.state READ == 0 then option_to_list p.item else []

-- those of the places, in their order
abbrev pub unread : {T : Type 0} → List (BlockPlace T) → List T
unread [] = []
unread (p ∷ ps) = unread_in p ++ unread ps

-- the items of this block, and the block behind it
abbrev pub unread_at : {T : Type 0} → List (Option (BlockState T)) → Option ℕ → List T
unread_at bs None = []
unread_at bs (Some b) = unread (places_in (block_of bs b))

abbrev pub behind_at : {T : Type 0} → List (Option (BlockState T)) → Option ℕ → Option ℕ
behind_at bs None = None
behind_at bs (Some b) = behind bs b

-- the items of this block and of so many at most behind it, each block taken out
abbrev pub chained : {T : Type 0} → ℕ → List (Option (BlockState T)) → Option ℕ → List T
chained zero bs b = []
chained (suc n) bs b = unread_at bs b ++ chained n (without b bs) (behind_at bs b)

-- the list that the blocks hold, with the items that are not yet written, and without those that are about to be read
abbrev pub chain_left : {T : Type 0} → List (Option (Running T)) → Option ℕ → List (Option (BlockState T)) → List T
chain_left calls front bs = chained (length bs) (settled_blocks calls bs) (settled_front calls front)
