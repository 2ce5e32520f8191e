-- The blocks of a machine, by their numbers, which are those of the requests that were granted. A block that was given up is there no more.
use Rattle.std.specs.Prelude.{ℕ, Option, Some, None, List, [], length, slice_index_or, slice_set, replicate}
use Rattle.queue_steps.specs.declared.sizes.TheConstants.{BLOCK_SLOTS}
use Rattle.machine_memory.specs.declared.blocks.BlockPlace.{BlockPlace}

-- a block: its places, and the block behind it
pub record BlockState (T : Type 0) : Type 0 where
  pub places : List (BlockPlace T)
  pub next : Option ℕ

-- a place that nobody has touched
abbrev pub blank : {T : Type 0} → BlockPlace T
blank = record { state = 0; item = None }

-- a block that was just granted
abbrev pub fresh_block : {T : Type 0} → BlockState T
fresh_block = record { places = replicate BLOCK_SLOTS blank; next = None }

-- the block of this number, if it is there
abbrev pub block_of : {T : Type 0} → List (Option (BlockState T)) → ℕ → Option (BlockState T)
block_of bs b = slice_index_or bs b None

-- the places of a block: none where there is no block
abbrev pub places_in : {T : Type 0} → Option (BlockState T) → List (BlockPlace T)
places_in None = []
places_in (Some k) = k.places

-- the block behind a block
abbrev pub behind_in : {T : Type 0} → Option (BlockState T) → Option ℕ
behind_in None = None
behind_in (Some k) = k.next

-- how many places the block of this number has
abbrev pub place_count : {T : Type 0} → List (Option (BlockState T)) → ℕ → ℕ
place_count bs b = length (places_in (block_of bs b))

-- a place, by its block's number and its own
abbrev pub place_of : {T : Type 0} → List (Option (BlockState T)) → ℕ → ℕ → BlockPlace T
place_of bs b i = slice_index_or (places_in (block_of bs b)) i blank

-- the state and the item of that place
abbrev pub state_of : {T : Type 0} → List (Option (BlockState T)) → ℕ → ℕ → ℕ
state_of bs b i = (place_of bs b i).state

abbrev pub item_of : {T : Type 0} → List (Option (BlockState T)) → ℕ → ℕ → Option T
item_of bs b i = (place_of bs b i).item

-- the block behind the block of this number
abbrev pub behind : {T : Type 0} → List (Option (BlockState T)) → ℕ → Option ℕ
behind bs b = behind_in (block_of bs b)

-- the block with another place i
abbrev pub with_place : {T : Type 0} → ℕ → BlockPlace T → Option (BlockState T) → Option (BlockState T)
with_place i x None = None
with_place i x (Some k) = Some (record k { places = slice_set k.places i x })

-- the block with another block behind it
abbrev pub with_next : {T : Type 0} → Option ℕ → Option (BlockState T) → Option (BlockState T)
with_next n None = None
with_next n (Some k) = Some (record k { next = n })

-- the blocks with another place
abbrev pub put_place : {T : Type 0} → List (Option (BlockState T)) → ℕ → ℕ → BlockPlace T → List (Option (BlockState T))
put_place bs b i x = slice_set bs b (with_place i x (block_of bs b))

-- the blocks with another state of a place
abbrev pub put_state : {T : Type 0} → List (Option (BlockState T)) → ℕ → ℕ → ℕ → List (Option (BlockState T))
put_state bs b i x = put_place bs b i (record (place_of bs b i) { state = x })

-- the blocks with another item in a place
abbrev pub put_item : {T : Type 0} → List (Option (BlockState T)) → ℕ → ℕ → Option T → List (Option (BlockState T))
put_item bs b i v = put_place bs b i (record (place_of bs b i) { item = v })

-- the blocks with another one behind this
abbrev pub put_next : {T : Type 0} → List (Option (BlockState T)) → ℕ → Option ℕ → List (Option (BlockState T))
put_next bs b n = slice_set bs b (with_next n (block_of bs b))

-- the blocks once this one is given up, if there is one to be given up
abbrev pub without : {T : Type 0} → Option ℕ → List (Option (BlockState T)) → List (Option (BlockState T))
without None bs = bs
without (Some b) bs = slice_set bs b None
