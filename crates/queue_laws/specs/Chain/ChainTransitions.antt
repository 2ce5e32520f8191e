-- What each step that changes a chain makes of it.
use Rattle.std.proofs.Common.{ℕ, ◌+◌, ◌-◌, true, [], ◌∷◌, ◌++◌, ◌/◌, ◌==◌, Bool, if◌then◌else◌, Option, Some, None}
use Rattle.queue_laws.specs.Common.{Puts.put, Vocabulary.BLOCK_SLOTS}
use Rattle.queue_laws.specs.Chain.ChainCells.{Writing, Wrote, Mover, Rests, Opening, Linking, Linked, Showing, Seen, Use, Chained, Chain, Reading, Done, Passer, Stands, Entering, Walk, Walker, GivenUp, LAST, Unused, Spare, Lost}
use Rattle.queue_steps.specs.Effect.{rest}

-- U5: the tail is exchanged, by which an item is appended. The mover is the party, where this is the last slot of its block
abbrev pub appended : {A : Type 0} → Chain A → ℕ → A → Mover → Chain A
appended c who v m = record c { tail = c.tail + 1; items = c.items ++ v ∷ []; writers = put c.writers c.tail (Writing who v); mover = m }

-- U4: the first block is installed
abbrev pub installed : {A : Type 0} → Chain A → ℕ → ℕ → Chain A
installed c who f = record c { blocks = c.blocks + 1; names = put c.names c.blocks f; uses = put c.uses f (Chained c.blocks); shown = Showing who }

-- U4b: the first block is shown to the poppers
abbrev pub displayed : {A : Type 0} → Chain A → Chain A
displayed c = record c { shown = Seen }

-- U6: the spare becomes the pushers' block
abbrev pub laid_out : {A : Type 0} → Chain A → ℕ → ℕ → Chain A
laid_out c who f =
    record c { blocks = c.blocks + 1; names = put c.names c.blocks f; uses = put c.uses f (Chained c.blocks); links = put c.links (c.blocks - 1) (Linking who); mover = Opening who }

-- U7: the tail moves on to the next block
abbrev pub opened : {A : Type 0} → Chain A → Chain A
opened c = record c { mover = Rests }

-- U8: the block is linked to the next one
abbrev pub chained : {A : Type 0} → Chain A → ℕ → Chain A
chained c b = record c { links = put c.links b Linked }

-- U9: the item is written into its slot
abbrev pub written : {A : Type 0} → Chain A → ℕ → A → Chain A
written c n v = record c { writers = put c.writers n (Wrote v) }

-- the mark of a close
abbrev pub marked : {A : Type 0} → Chain A → Chain A
marked c = record c { closed = true }

-- U3: a block is granted, or a call gives its spare up: a name is used otherwise, and the chain's blocks are the same
abbrev pub renamed : {A : Type 0} → Chain A → ℕ → Use → Chain A
renamed c f u = record c { uses = put c.uses f u }

-- V4: the head is exchanged, by which the front is taken. The passer is the party, where this is the last slot of its block
abbrev pub taken : {A : Type 0} → Chain A → ℕ → Passer → Bool → Chain A
taken c who p more = record c { head = c.head + 1; items = rest c.items; readers = put c.readers c.head (Reading who); passer = p; known = more }

-- V7: the next block is shown to the poppers
abbrev pub passed : {A : Type 0} → Chain A → ℕ → Chain A
passed c who = record c { front = c.front + 1; passer = Entering who }

-- V8: the head moves on to the next block
abbrev pub entered : {A : Type 0} → Chain A → Bool → Chain A
entered c more = record c { passer = Stands; known = more }

-- an item that is read
abbrev pub reads : {A : Type 0} → Chain A → ℕ → Walk → Chain A
reads c n w = record c { readers = put c.readers n Done; walks = put c.walks (n / BLOCK_SLOTS) w }

-- where the walk is after this slot
abbrev pub walk_after : ℕ → ℕ → Walk
walk_after who slot = if slot + 1 == LAST then GivenUp else Walker who (slot + 1)

-- W1, W2: a passed block whose walk is this then
abbrev pub walked : {A : Type 0} → Chain A → ℕ → Walk → Chain A
walked c b w = record c { walks = put c.walks b w }

-- what a block given up is for: a spare is lost. A block of the chain is given up by its walk
abbrev pub lost_of : Use → Use
lost_of Unused = Unused
lost_of (Spare who) = Lost
lost_of (Chained b) = Chained b
lost_of Lost = Lost

-- the chain once this block is given up, if there is one to be given up
abbrev pub given_up : {A : Type 0} → Chain A → Option ℕ → Chain A
given_up c None = c
given_up c (Some f) = renamed c f (lost_of (c.uses f))
