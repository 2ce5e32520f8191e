-- What each call of a queue with one owner answers, and what it leaves: the first line that fits decides.
use Rattle.std.specs.Prelude.{◌≡◌, ◌⊎◌, ℕ, ◌+◌, ◌-◌, ◌/◌, Bool, true, not, ◌&&◌, ◌==◌, if◌then◌else◌, List, [], ◌∷◌, ◌++◌, length, Option, Some, None, Result, Ok, Err}
use Rattle.queue_steps.specs.declared.{sizes.TheConstants.LIMIT, sizes.TheConstants.BLOCK_SLOTS, model.Call.Call, model.Reply.Reply, model.Call.Call as call, model.Reply.Reply as reply}
use Rattle.queue_steps.specs.declared.errors.{PopError.PopError, PopError.PopError as pop, PushError.PushError as push, ForcePushError.ForcePushError as force}
use Rattle.queue_steps.specs.{State.State, State.start, State.is_full, State.is_slot_cap, Effect.rest, Looks.look_reply, Replies.LacksMemory}

-- the queue has accepted all that it ever will
abbrev pub is_spent : {T : Type 0} → State T → Bool
is_spent Q = not (is_slot_cap Q.cap) && (Q.accepted == LIMIT)

-- one more accepted item. A queue of one slot with one owner keeps no count
abbrev pub counted : {T : Type 0} → State T → ℕ
counted Q = if is_slot_cap Q.cap then Q.accepted else Q.accepted + 1

-- with v at its end
abbrev pub appended : {T : Type 0} → State T → T → State T
appended Q v = record Q { items = Q.items ++ v ∷ []; accepted = counted Q }

-- with the front off and v at its end
abbrev pub displaced : {T : Type 0} → State T → T → State T
displaced Q v = record Q { items = rest Q.items ++ v ∷ []; accepted = counted Q }

abbrev pub shut : {T : Type 0} → State T → State T
shut Q = record Q { closed = true }

abbrev pub front : {T : Type 0} → List T → Option T
front [] = None
front (x ∷ xs) = Some x

abbrev pub pop_result : {T : Type 0} → Bool → List T → Result T PopError
pop_result closed [] = Err (if closed then pop.Closed else pop.Empty)
pop_result closed (x ∷ xs) = Ok x

-- the table: what the call answers, and the state that it leaves
abbrev pub owner_table : {T : Type 0} → State T → Call T → Reply T × State T
owner_table Q (call.Push v) =
    if Q.closed then (reply.Push (Err (push.Closed v)), Q)
    else (if is_spent Q then (reply.Push (Err (push.Closed v)), shut Q)
    else (if is_full Q then (reply.Push (Err (push.Full v)), Q)
    else (reply.Push (Ok tt), appended Q v)))
owner_table Q (call.ForcePush v) =
    if Q.closed then (reply.ForcePush (Err (force.Closed v)), Q)
    else (if is_spent Q then (reply.ForcePush (Err (force.Closed v)), shut Q)
    else (if is_full Q then (reply.ForcePush (Ok (front Q.items)), displaced Q v)
    else (reply.ForcePush (Ok None), appended Q v)))
owner_table Q call.Pop = (reply.Pop (pop_result Q.closed Q.items), record Q { items = rest Q.items })
owner_table Q call.Close = (reply.Close (not Q.closed), shut Q)
owner_table Q look = (look_reply Q look, Q)

abbrev pub sequential_reply : {T : Type 0} → State T → Call T → Reply T
sequential_reply Q c = (owner_table Q c).0

abbrev pub sequential_state : {T : Type 0} → State T → Call T → State T
sequential_state Q c = (owner_table Q c).1

-- a queue with one owner: the abstract queue, and how many blocks it holds
pub record Owned (T : Type 0) : Type 0 where
  pub queue : State T
  pub blocks : ℕ

-- an empty open queue of this capacity, just made
abbrev pub fresh : {T : Type 0} → Option ℕ → Owned T
fresh cap = record { queue = start cap 0; blocks = 0 }

-- the blocks from the first item's to the one where the next item goes: none for a queue with a capacity
abbrev pub spanned : Option ℕ → ℕ → ℕ → ℕ
spanned None accepted len = accepted / BLOCK_SLOTS - (accepted - len) / BLOCK_SLOTS + 1
spanned (Some c) accepted len = 0

abbrev pub blocks_of : {T : Type 0} → State T → ℕ
blocks_of Q = spanned Q.cap Q.accepted (length Q.items)

-- how many blocks a queue with one owner may hold: while it has accepted nothing, an unbounded one may hold none
abbrev pub HoldsBlocks : {T : Type 0} → Owned T → Type 0
HoldsBlocks P = (P.blocks ≡ blocks_of P.queue) ⊎ ((P.blocks ≡ 0) × (P.queue.accepted ≡ 0))

-- a queue that has come to this state. While nothing was accepted, it holds what it held
abbrev pub moved : {T : Type 0} → Owned T → State T → Owned T
moved P Q = record { queue = Q; blocks = if Q.accepted == 0 then P.blocks else blocks_of Q }

-- with one owner, this call at P answers r and leaves R: the table, or want of memory, which changes nothing. A queue that has accepted nothing and holds a block lacks none
abbrev pub Sequential : {T : Type 0} → Owned T → Call T → Reply T → Owned T → Type 0
Sequential P c r R = ((r ≡ sequential_reply P.queue c) × (R ≡ moved P (sequential_state P.queue c))) ⊎ (LacksMemory P.queue c r × (P.queue.accepted ≡ 0 → P.blocks ≡ 0) × (R ≡ P))

-- a run of calls, each of which begins where the one before it left off
abbrev pub SequentialRun : {T : Type 0} → Owned T → List (Call T) → List (Reply T) → Owned T → Type 0
SequentialRun P [] [] R = R ≡ P
SequentialRun {T} P (c ∷ cs) (r ∷ rs) R = (M : Owned T) × (Sequential P c r M × SequentialRun M cs rs R)
SequentialRun P _ _ R = ⊥
