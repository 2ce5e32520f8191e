-- The steps of a chain of blocks.
use Rattle.std.specs.Prelude.{◌≡◌, ℕ, ◌+◌, ◌-◌, ◌*◌, ◌%◌, ◌<◌, ◌≤◌, Bool, false, not, bit_and, ◌==◌, Option, Some, None, Ok, Err, IsSome, is_some, nat_lt, if◌then◌else◌}
use Rattle.queue_steps.specs.declared.{sizes.TheConstants.LIMIT, sizes.TheConstants.BLOCK_SLOTS, model.Call.Call, model.Reply.Reply, model.Reply.Reply as reply, errors.PopError.PopError as pop, errors.PushError.PushError as push, errors.ForcePushError.ForcePushError as force}
use Rattle.queue_steps.specs.declared.steps.types.Answer.{Answer, TheVariants.Found, TheVariants.Linked, TheVariants.Granted, TheVariants.Refused, TheVariants.Done}
use Rattle.queue_steps.specs.declared.steps.types.{Link.Link as link, Local.Local as local, Op.Op, Op.Op as op, Next.Next, Next.Next as next, Word.Word, Word.Word as word, Touch.Touch, Touch.Touch as touch}
use Rattle.queue_steps.specs.declared.steps.{ring.TheConstants.MARK, ring.TheConstants.TAIL_STEP, ring.PushKind.PushKind, ring.PushKind.PushKind as kind, looks.CallView.CallView, looks.CallView.CallView as view, looks.Look.Look, looks.Look.Look as look}
use Rattle.queue_steps.specs.declared.steps.chain.{TheConstants.WRITE, TheConstants.READ, TheConstants.DESTROY, ChainLocal.ChainLocal, ChainLocal.ChainLocal as chain}
use Rattle.queue_steps.specs.{Looks.call_view, Looks.reply_of_look, RingNext.closed_reply, RingNext.pushed_reply, Words.IsWord, Words.position_of, Words.is_shut, ChainWords.block_at, ChainWords.offset_of, ChainWords.items_before, ChainWords.over_end}

-- one step, after which the call waits at l
abbrev pub at : {B : Type 0} → ChainLocal B → Touch → Op B → Next B
at l t o = next.Step (local.Chain l) t o

abbrev pub loads : {B : Type 0} → ChainLocal B → Word B → Next B
loads l w = at l touch.Nothing (op.Load w)

-- the end of a call that gives no block up
abbrev pub ends : {B : Type 0} → Reply Unit → Next B
ends r = next.Reply r None

-- whether a word's position is that of the last slot of its block
abbrev pub is_last_slot : ℕ → Bool
is_last_slot w = offset_of w + 1 == BLOCK_SLOTS

-- the answer fits what was asked, the words leave room for the next ones, and no block is missing where one is needed
abbrev pub FitsChain : {B : Type 0} → ChainLocal B → Answer B → Type 0
FitsChain (chain.PushTail p spare) (Found tail) = IsWord tail
FitsChain (chain.PushBlock p tail spare) (Linked block) = IsWord tail × (block ≡ None → spare ≡ None)
FitsChain (chain.Asking p tail block) Refused = Unit {0}
FitsChain (chain.Asking p tail block) (Granted fresh) = IsWord tail
FitsChain (chain.Installing p tail fresh) (Linked before) = Unit {0}
FitsChain (chain.Showing p tail block) Done = IsWord tail
FitsChain (chain.Claiming p tail block spare) (Found found) = IsWord found × (found ≡ tail → offset_of tail + 1 ≡ BLOCK_SLOTS → IsSome spare)
FitsChain (chain.Laying p tail block fresh) Done = Unit {0}
FitsChain (chain.Opening p tail block fresh) (Found before) = Unit {0}
FitsChain (chain.Chaining p tail block fresh) Done = Unit {0}
FitsChain (chain.Writing p spare) (Found before) = Unit {0}
FitsChain (chain.ClosingAtLimit p spare) (Found before) = Unit {0}
FitsChain chain.PopHead (Found head) = Unit {0}
FitsChain (chain.PopBlock head) (Linked block) = IsWord head × (head % 2 ≡ 1 → IsSome block)
FitsChain (chain.PopTail head block) (Found tail) = IsWord head
FitsChain (chain.Taking head block) (Found found) = Unit {0}
FitsChain (chain.Following head block) (Linked after) = Unit {0}
FitsChain (chain.Peeking head block after) (Linked further) = Unit {0}
FitsChain (chain.Passing head block more) Done = IsWord head
FitsChain (chain.Entering head block) Done = Unit {0}
FitsChain (chain.Awaiting head block) (Found state) = Unit {0}
FitsChain (chain.Reading block slot) (Found state) = slot < BLOCK_SLOTS
FitsChain (chain.Walking block slot) (Found state) = slot < BLOCK_SLOTS
FitsChain (chain.Destroying block slot) (Found state) = slot < BLOCK_SLOTS
FitsChain (chain.CountTail g) (Found tail) = Unit {0}
FitsChain (chain.CountHead g tail) (Found head) = Unit {0}
FitsChain (chain.CountAgain g tail head) (Found again) = IsWord tail × IsWord head × (again ≡ tail → items_before (position_of head) ≤ items_before (position_of tail))
FitsChain chain.EmptyHead (Found head) = Unit {0}
FitsChain (chain.EmptyTail head) (Found tail) = IsWord head × IsWord tail
FitsChain chain.Closing (Found tail) = Unit {0}
FitsChain chain.ClosedTail (Found tail) = Unit {0}
FitsChain _ _ = ⊥

-- where a look begins: whether the chain is empty is told by two loads, it is never full, and any other look counts the items
abbrev pub chain_look : {B : Type 0} → Look → Next B
chain_look look.IsClosed = loads chain.ClosedTail word.Tail
chain_look look.IsEmpty = loads chain.EmptyHead word.Head
chain_look look.IsFull = ends (reply.IsFull false)
chain_look l = loads (chain.CountTail l) word.Tail

-- where a call begins, by what it does
abbrev pub chain_start : {B : Type 0} → CallView → Next B
chain_start (view.Push p) = loads (chain.PushTail p None) word.Tail
chain_start view.Pop = loads chain.PopHead word.Head
chain_start view.Close = at chain.Closing touch.Nothing (op.Or word.Tail MARK)
chain_start (view.Look l) = chain_look l
chain_start view.Capacity = ends (reply.Capacity None)

abbrev pub chain_begin : {B : Type 0} → Call Unit → Next B
chain_begin c = chain_start (call_view c)

-- the reply of a push that was refused a block
abbrev pub gives_up : PushKind → Reply Unit
gives_up kind.Push = reply.Push (Err (push.NoMemory tt))
gives_up kind.Force = reply.ForcePush (Err (force.NoMemory tt))

-- after a tail that a push found
abbrev pub chain_tail_found : {B : Type 0} → PushKind → ℕ → Option B → Next B
chain_tail_found p tail spare =
    if is_shut tail then next.Reply (closed_reply p) spare
    else (if items_before (position_of tail) == LIMIT then at (chain.ClosingAtLimit p spare) touch.Nothing (op.Or word.Tail MARK)
    else (if offset_of tail == BLOCK_SLOTS then loads (chain.PushTail p spare) word.Tail
    else at (chain.PushBlock p tail spare) touch.Nothing (op.LoadLink link.TailBlock)))

abbrev pub claims : {B : Type 0} → PushKind → ℕ → B → Option B → Next B
claims p tail block spare = at (chain.Claiming p tail block spare) touch.Nothing (op.Exchange word.Tail tail (tail + TAIL_STEP))

abbrev pub asks : {B : Type 0} → PushKind → ℕ → Option B → Next B
asks p tail block = at (chain.Asking p tail block) touch.Nothing op.Ask

-- after the pushers' block: a push that will need one more asks for it before it moves the tail. No block but a spare is excluded
abbrev pub tail_block_found : {B : Type 0} → PushKind → ℕ → Option B → Option B → Next B
tail_block_found p tail (Some block) (Some spare) = claims p tail block (Some spare)
tail_block_found p tail (Some block) None = if is_last_slot tail then asks p tail (Some block) else claims p tail block None
tail_block_found p tail None spare = asks p tail None

-- after a block that was granted: the first one is installed, any other is kept as the spare
abbrev pub granted : {B : Type 0} → PushKind → ℕ → Option B → B → Next B
granted p tail None fresh = at (chain.Installing p tail fresh) touch.Nothing (op.Install fresh)
granted p tail (Some block) fresh = claims p tail block (Some fresh)

-- after the installing of a first block: where another was there, this one is kept as the spare
abbrev pub installed : {B : Type 0} → PushKind → ℕ → B → Option B → Next B
installed p tail fresh None = at (chain.Showing p tail fresh) touch.Nothing (op.StoreLink link.HeadBlock fresh)
installed p tail fresh (Some before) = loads (chain.PushTail p (Some fresh)) word.Tail

abbrev pub writes : {B : Type 0} → PushKind → ℕ → B → Option B → Next B
writes p tail block spare = at (chain.Writing p spare) (touch.Put (offset_of tail)) (op.Or (word.State block (offset_of tail)) WRITE)

abbrev pub lays : {B : Type 0} → PushKind → ℕ → B → Option B → Next B
lays p tail block (Some fresh) = at (chain.Laying p tail block fresh) touch.Nothing (op.StoreLink link.TailBlock fresh)
lays p tail block None = writes p tail block None

-- after a tail that was claimed: after the last slot of a block the spare is laid behind it. No spare there is excluded
abbrev pub claimed : {B : Type 0} → PushKind → ℕ → B → Option B → Next B
claimed p tail block spare = if is_last_slot tail then lays p tail block spare else writes p tail block spare

-- after a head that a pop found
abbrev pub chain_head_found : {B : Type 0} → ℕ → Next B
chain_head_found head =
    if offset_of head == BLOCK_SLOTS then loads chain.PopHead word.Head
    else at (chain.PopBlock head) touch.Nothing (op.LoadLink link.HeadBlock)

abbrev pub takes : {B : Type 0} → ℕ → B → ℕ → Next B
takes head block new = at (chain.Taking head block) touch.Nothing (op.Exchange word.Head head new)

-- after the poppers' block: where it may be the last, the tail tells whether the queue is empty. No block at a marked head is excluded
abbrev pub head_block_found : {B : Type 0} → ℕ → Option B → Next B
head_block_found head block = if head % 2 == 1 then moves block else loads (chain.PopTail head block) word.Tail
  where
    moves : {B : Type 0} → Option B → Next B
    moves (Some b) = takes head b (head + TAIL_STEP)
    moves None = loads chain.PopHead word.Head

-- after the tail that a pop found: where it is in another block, the new head says that its block is not the last
abbrev pub chain_pop_tail_found : {B : Type 0} → ℕ → Option B → ℕ → Next B
chain_pop_tail_found head block tail =
    if position_of tail == position_of head then ends (reply.Pop (Err (if is_shut tail then pop.Closed else pop.Empty)))
    else moves block
  where
    moves : {B : Type 0} → Option B → Next B
    moves None = loads chain.PopHead word.Head
    moves (Some b) = if block_at (position_of tail) == block_at (position_of head) then takes head b (head + TAIL_STEP) else takes head b (head + TAIL_STEP + 1)

abbrev pub awaits : {B : Type 0} → ℕ → B → Next B
awaits head block = loads (chain.Awaiting head block) (word.State block (offset_of head))

abbrev pub follows : {B : Type 0} → ℕ → B → Next B
follows head block = at (chain.Following head block) touch.Nothing (op.LoadLink (link.Next block))

-- after a head that was claimed: after the last slot of a block the poppers pass to the next one
abbrev pub taken : {B : Type 0} → ℕ → B → Next B
taken head block = if is_last_slot head then follows head block else awaits head block

-- after the block behind a passed one: it has to be there before the poppers enter it
abbrev pub followed : {B : Type 0} → ℕ → B → Option B → Next B
followed head block None = follows head block
followed head block (Some after) = at (chain.Peeking head block after) touch.Nothing (op.LoadLink (link.Next after))

-- the walk over a passed block, at this slot
abbrev pub walks : {B : Type 0} → B → ℕ → Touch → Next B
walks block slot t = at (chain.Walking block slot) t (op.Load (word.State block slot))

-- the walk goes on after this slot; past the last one that others read, the block is given up
abbrev pub walks_on : {B : Type 0} → B → ℕ → Next B
walks_on block slot = if nat_lt (slot + 2) BLOCK_SLOTS then walks block (slot + 1) touch.Nothing else next.Reply (reply.Pop (Ok tt)) (Some block)

-- after the state of the slot at the head: once it is written it is read, and the last slot's reader begins the walk
abbrev pub written_found : {B : Type 0} → ℕ → B → ℕ → Next B
written_found head block state =
    if bit_and state WRITE == 0 then awaits head block
    else (if is_last_slot head then walks block 0 (touch.Take (offset_of head))
    else at (chain.Reading block (offset_of head)) (touch.Take (offset_of head)) (op.Or (word.State block (offset_of head)) READ))

-- after the answer to the last step. The last line stands for what `FitsChain` excludes
abbrev pub chain_next : {B : Type 0} → ChainLocal B → Answer B → Next B
chain_next (chain.PushTail p spare) (Found tail) = chain_tail_found p tail spare
chain_next (chain.PushBlock p tail spare) (Linked block) = tail_block_found p tail block spare
chain_next (chain.Asking p tail block) Refused = ends (gives_up p)
chain_next (chain.Asking p tail block) (Granted fresh) = granted p tail block fresh
chain_next (chain.Installing p tail fresh) (Linked before) = installed p tail fresh before
chain_next (chain.Showing p tail block) Done = claims p tail block None
chain_next (chain.Claiming p tail block spare) (Found found) = if found == tail then claimed p tail block spare else chain_tail_found p found spare
chain_next (chain.Laying p tail block fresh) Done = at (chain.Opening p tail block fresh) touch.Nothing (op.Add word.Tail TAIL_STEP)
chain_next (chain.Opening p tail block fresh) (Found before) = at (chain.Chaining p tail block fresh) touch.Nothing (op.StoreLink (link.Next block) fresh)
chain_next (chain.Chaining p tail block fresh) Done = writes p tail block None
chain_next (chain.Writing p spare) (Found before) = next.Reply (pushed_reply p) spare
chain_next (chain.ClosingAtLimit p spare) (Found before) = next.Reply (closed_reply p) spare
chain_next chain.PopHead (Found head) = chain_head_found head
chain_next (chain.PopBlock head) (Linked block) = head_block_found head block
chain_next (chain.PopTail head block) (Found tail) = chain_pop_tail_found head block tail
chain_next (chain.Taking head block) (Found found) = if found == head then taken head block else chain_head_found found
chain_next (chain.Following head block) (Linked after) = followed head block after
chain_next (chain.Peeking head block after) (Linked further) = at (chain.Passing head block (is_some further)) touch.Nothing (op.StoreLink link.HeadBlock after)
chain_next (chain.Passing head block more) Done =
    at (chain.Entering head block) touch.Nothing (op.Store word.Head ((position_of head + 2) * 2 + (if more then 1 else 0)))
chain_next (chain.Entering head block) Done = awaits head block
chain_next (chain.Awaiting head block) (Found state) = written_found head block state
chain_next (chain.Reading block slot) (Found state) = if not (bit_and state DESTROY == 0) then walks_on block slot else ends (reply.Pop (Ok tt))
chain_next (chain.Walking block slot) (Found state) =
    if not (bit_and state READ == 0) then walks_on block slot
    else at (chain.Destroying block slot) touch.Nothing (op.Or (word.State block slot) DESTROY)
chain_next (chain.Destroying block slot) (Found state) = if not (bit_and state READ == 0) then walks_on block slot else ends (reply.Pop (Ok tt))
chain_next (chain.CountTail g) (Found tail) = loads (chain.CountHead g tail) word.Head
chain_next (chain.CountHead g tail) (Found head) = loads (chain.CountAgain g tail head) word.Tail
chain_next (chain.CountAgain g tail head) (Found again) =
    if again == tail then ends (reply_of_look None (items_before (position_of tail) - items_before (position_of head)) (is_shut tail) g)
    else loads (chain.CountTail g) word.Tail
chain_next chain.EmptyHead (Found head) = loads (chain.EmptyTail head) word.Tail
chain_next (chain.EmptyTail head) (Found tail) = ends (reply.IsEmpty (over_end (position_of tail) == over_end (position_of head)))
chain_next chain.Closing (Found tail) = ends (reply.Close (tail % 2 == 0))
chain_next chain.ClosedTail (Found tail) = ends (reply.IsClosed (is_shut tail))
chain_next _ _ = ends (reply.Capacity None)
