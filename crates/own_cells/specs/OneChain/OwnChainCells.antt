-- What the steps of a call do on a chain of blocks with one owner.
use Rattle.std.specs.Prelude.{◌≡◌, ℕ, ◌+◌, ◌-◌, ◌^◌, ◌<◌, ◌≤◌, ◌==◌, ◌⊎◌, ◌≢◌, bit_or, List, [], ◌∷◌, ◌++◌, length, replicate, slice_set, get_or, Option, Some, None, IsSome, if◌then◌else◌}
use denote.RawPtr.{null_ptr}
use Rattle.queue_steps.specs.{declared.sizes.TheConstants.BLOCK_SLOTS, Effect.rest}
use Rattle.queue_steps.specs.declared.steps.types.{Kind.Kind, Kind.Kind as kind, Answer.Answer, Answer.Answer as answer, Link.Link as link, Op.Op, Op.Op as op, Word.Word as word, Touch.Touch, Touch.Touch as touch}
use Rattle.own_cells.specs.declared.chain.own_chain.Name.{Name}

-- a block of the chain: its name, the one behind it once they are linked, and the state and the content of each slot
pub record Piece (T : Type 0) : Type 0 where
  pub name : Name T
  pub next : Option (Name T)
  pub states : List ℕ
  pub slots : List (Option T)

-- what is in a chain: the words of the two positions, the poppers' and the pushers' block, the number of the oldest block, the blocks from that one on,
-- and a block that was granted and is not laid yet
pub record OwnChain (T : Type 0) : Type 0 where
  pub head : ℕ
  pub tail : ℕ
  pub head_block : Option (Name T)
  pub tail_block : Option (Name T)
  pub first : ℕ
  pub pieces : List (Piece T)
  pub spare : Option (Name T)

abbrev pub kind_of_own_chain : {T : Type 0} → OwnChain T → Kind
kind_of_own_chain r = kind.Unbounded

-- a block as it is granted
abbrev pub fresh_piece : {T : Type 0} → Name T → Piece T
fresh_piece b = record { name = b; next = None; states = replicate BLOCK_SLOTS 0; slots = replicate BLOCK_SLOTS None }

abbrev pub no_name : {T : Type 0} → Name T
no_name = record { number = 0; link = record { ptr = null_ptr } }

-- the block at this place of the list; there is none beyond the last
abbrev pub piece_at : {T : Type 0} → List (Piece T) → ℕ → Piece T
piece_at pieces i = get_or pieces i (fresh_piece no_name)

abbrev pub state_in : {T : Type 0} → Piece T → ℕ → ℕ
state_in p slot = get_or p.states slot 0

abbrev pub item_in : {T : Type 0} → Piece T → ℕ → Option T
item_in p slot = get_or p.slots slot None

-- where in the list the block of this name is
abbrev pub place_of : {T : Type 0} → OwnChain T → Name T → ℕ
place_of r b = b.number - r.first

-- the block of this name
abbrev pub piece_of : {T : Type 0} → OwnChain T → Name T → Piece T
piece_of r b = piece_at r.pieces (place_of r b)

abbrev pub with_piece : {T : Type 0} → OwnChain T → Name T → Piece T → OwnChain T
with_piece r b p = record r { pieces = slice_set r.pieces (place_of r b) p }

-- a block of this name is laid
abbrev pub Named : {T : Type 0} → OwnChain T → Name T → Type 0
Named r b = (r.first ≤ b.number) × (b.number < r.first + length r.pieces) × ((piece_of r b).name ≡ b)

-- the granted block is laid at the end
abbrev pub laid : {T : Type 0} → OwnChain T → Name T → OwnChain T
laid r b = record r { tail_block = Some b; pieces = r.pieces ++ fresh_piece b ∷ []; spare = None }

-- the block whose state the operation names
abbrev pub state_block : {T : Type 0} → Op (Name T) → Option (Name T)
state_block (op.Load (word.State b slot)) = Some b
state_block (op.Or (word.State b slot) bits) = Some b
state_block _ = None

-- the call's own place and a slot change their content
abbrev pub exchanged : {T : Type 0} → OwnChain T → Option (Name T) → ℕ → Option T → OwnChain T × Option T
exchanged r None slot carried = (r, carried)
exchanged r (Some b) slot carried = (with_piece r b (record (piece_of r b) { slots = slice_set (piece_of r b).slots slot carried }), item_in (piece_of r b) slot)

abbrev pub own_chain_touched : {T : Type 0} → OwnChain T → Touch → Op (Name T) → Option T → OwnChain T × Option T
own_chain_touched r touch.Nothing o carried = (r, carried)
own_chain_touched r (touch.Put slot) o carried = exchanged r (state_block o) slot carried
own_chain_touched r (touch.Swap slot) o carried = exchanged r (state_block o) slot carried
own_chain_touched r (touch.Take slot) o carried = exchanged r (state_block o) slot carried

-- a slot is put only where it is empty, and taken only where it is full
abbrev pub CanPut : {T : Type 0} → OwnChain T → Option (Name T) → ℕ → Type 0
CanPut r None slot = ⊥
CanPut r (Some b) slot = Named r b × (slot < BLOCK_SLOTS) × (item_in (piece_of r b) slot ≡ None)

abbrev pub CanTake : {T : Type 0} → OwnChain T → Option (Name T) → ℕ → Type 0
CanTake r None slot = ⊥
CanTake {T} r (Some b) slot = Named r b × (slot < BLOCK_SLOTS) × ((x : T) × (item_in (piece_of r b) slot ≡ Some x))

abbrev pub own_chain_can_touch : {T : Type 0} → OwnChain T → Touch → Op (Name T) → Type 0
own_chain_can_touch r touch.Nothing o = Unit {0}
own_chain_can_touch r (touch.Put slot) o = CanPut r (state_block o) slot
own_chain_can_touch r (touch.Swap slot) o = ⊥
own_chain_can_touch r (touch.Take slot) o = CanTake r (state_block o) slot

abbrev pub own_chain_touches : {T : Type 0} → OwnChain T → Touch → Op (Name T) → Option T → OwnChain T → Option T → Type 0
own_chain_touches r t o carried after left = (after, left) ≡ own_chain_touched r t o carried

-- what the operations answer and leave, but for a request. The last own_chain stands for what `own_chain_can_perform` excludes
abbrev pub own_chain_performed : {T : Type 0} → OwnChain T → Op (Name T) → Answer (Name T) × OwnChain T
own_chain_performed r (op.Load word.Tail) = (answer.Found r.tail, r)
own_chain_performed r (op.Load word.Head) = (answer.Found r.head, r)
own_chain_performed r (op.Load (word.State b slot)) = (answer.Found (state_in (piece_of r b) slot), r)
own_chain_performed r (op.Store word.Head new) = (answer.Done, record r { head = new })
own_chain_performed r (op.Add word.Tail more) = (answer.Found r.tail, record r { tail = r.tail + more })
own_chain_performed r (op.Or word.Tail bits) = (answer.Found r.tail, record r { tail = bit_or r.tail bits })
own_chain_performed r (op.Or (word.State b slot) bits) =
    (answer.Found (state_in (piece_of r b) slot), with_piece r b (record (piece_of r b) { states = slice_set (piece_of r b).states slot (bit_or (state_in (piece_of r b) slot) bits) }))
own_chain_performed r (op.Exchange word.Tail a b) = (answer.Found r.tail, record r { tail = if r.tail == a then b else r.tail })
own_chain_performed r (op.Exchange word.Head a b) = (answer.Found r.head, record r { head = if r.head == a then b else r.head })
own_chain_performed r (op.LoadLink link.HeadBlock) = (answer.Linked r.head_block, r)
own_chain_performed r (op.LoadLink link.TailBlock) = (answer.Linked r.tail_block, r)
own_chain_performed r (op.LoadLink (link.Next b)) = (answer.Linked (piece_of r b).next, r)
own_chain_performed r (op.StoreLink link.HeadBlock b) = (answer.Done, record r { head_block = Some b })
own_chain_performed r (op.StoreLink link.TailBlock b) = (answer.Done, laid r b)
own_chain_performed r (op.StoreLink (link.Next b) after) = (answer.Done, with_piece r b (record (piece_of r b) { next = Some after }))
own_chain_performed r (op.Install b) = (answer.Linked r.tail_block, laid r b)
own_chain_performed r _ = (answer.Done, r)

-- a block that was granted may be laid at the end
abbrev pub CanLay : {T : Type 0} → OwnChain T → Name T → Type 0
CanLay r b = (r.spare ≡ Some b) × (r.first + length r.pieces < 2 ^ 63)

-- the link to the next block is read where the numbers tell whether there is one: the last block has none, and any other is linked to the one behind it
abbrev pub CanFollow : {T : Type 0} → OwnChain T → Name T → Type 0
CanFollow {T} r b =
    Named r b × ((end : Name T) × (r.tail_block ≡ Some end) × (((end.number ≡ b.number) × ((piece_of r b).next ≡ None)) ⊎ ((end.number ≢ b.number) × IsSome (piece_of r b).next)))

-- which operations each word and link has
abbrev pub own_chain_can_perform : {T : Type 0} → OwnChain T → Op (Name T) → Type 0
own_chain_can_perform r (op.Load word.Tail) = Unit {0}
own_chain_can_perform r (op.Load word.Head) = Unit {0}
own_chain_can_perform r (op.Load (word.State b slot)) = Named r b × (slot < BLOCK_SLOTS)
own_chain_can_perform r (op.Store word.Head new) = Unit {0}
own_chain_can_perform r (op.Add word.Tail more) = r.tail + more < 2 ^ 64
own_chain_can_perform r (op.Or word.Tail bits) = Unit {0}
own_chain_can_perform r (op.Or (word.State b slot) bits) = Named r b × (slot < BLOCK_SLOTS)
own_chain_can_perform r (op.Exchange word.Tail a b) = Unit {0}
own_chain_can_perform r (op.Exchange word.Head a b) = Unit {0}
own_chain_can_perform r (op.LoadLink link.HeadBlock) = Unit {0}
own_chain_can_perform r (op.LoadLink link.TailBlock) = Unit {0}
own_chain_can_perform r (op.LoadLink (link.Next b)) = CanFollow r b
own_chain_can_perform r (op.StoreLink link.HeadBlock b) = Unit {0}
own_chain_can_perform r (op.StoreLink link.TailBlock b) = CanLay r b
own_chain_can_perform r (op.StoreLink (link.Next b) after) = Named r b × Named r after × (after.number ≡ b.number + 1)
own_chain_can_perform r (op.Install b) = CanLay r b × (r.tail_block ≡ None)
own_chain_can_perform r op.Ask = r.spare ≡ None
own_chain_can_perform r _ = ⊥

-- a request is refused, or it is granted a block with the number after the last one
abbrev pub own_chain_asks : {T : Type 0} → OwnChain T → Answer (Name T) → OwnChain T → Type 0
own_chain_asks r answer.Refused after = after ≡ r
own_chain_asks r (answer.Granted b) after = (b.number ≡ r.first + length r.pieces) × (after ≡ record r { spare = Some b })
own_chain_asks r _ after = ⊥

abbrev pub own_chain_performs : {T : Type 0} → OwnChain T → Op (Name T) → Answer (Name T) → OwnChain T → Type 0
own_chain_performs r op.Ask a after = own_chain_asks r a after
own_chain_performs r o a after = (a, after) ≡ own_chain_performed r o

-- every slot of a block is empty
abbrev pub IsEmptied : {T : Type 0} → List (Option T) → Type 0
IsEmptied [] = Unit {0}
IsEmptied (o ∷ os) = (o ≡ None) × IsEmptied os

-- the oldest block is given up once it is empty
abbrev pub own_chain_can_release : {T : Type 0} → OwnChain T → Name T → Type 0
own_chain_can_release r b = Named r b × (b.number ≡ r.first) × IsEmptied (piece_of r b).slots

abbrev pub own_chain_releases : {T : Type 0} → OwnChain T → Name T → OwnChain T → Type 0
own_chain_releases r b after = after ≡ record r { first = r.first + 1; pieces = rest r.pieces }
