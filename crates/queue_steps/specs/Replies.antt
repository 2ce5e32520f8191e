-- Where a reply is right, where a push may lack memory, and which effects a reply stands for. A reply of another call is none of these.
use Rattle.std.specs.Prelude.{◌≡◌, ◌⊎◌, ◌-◌, ◌%◌, Bool, true, false, List, [], ◌∷◌, length, Some, None, Ok, Err}
use Rattle.queue_steps.specs.{declared.sizes.TheConstants.BLOCK_SLOTS, declared.errors.PopError.PopError as pop, declared.errors.PushError.PushError as push, declared.errors.ForcePushError.ForcePushError as force, State.State, State.is_full, State.IsBelow}
use Rattle.queue_steps.specs.declared.model.{Call.Call, Call.Call as call, Effect.Effect, Effect.Effect as effect, Reply.Reply, Reply.Reply as reply}

abbrev pub is_empty : {T : Type 0} → List T → Bool
is_empty [] = true
is_empty (x ∷ xs) = false

-- a reply without effect is right at this state, and hands back the value that the call brought
abbrev pub IsRightAt : {T : Type 0} → State T → Call T → Reply T → Type 0
IsRightAt Q (call.Push v) (reply.Push (Err (push.Full w))) = (w ≡ v) × (Q.closed ≡ false) × (is_full Q ≡ true) × IsBelow Q
IsRightAt Q (call.Push v) (reply.Push (Err (push.Closed w))) = (w ≡ v) × (Q.closed ≡ true)
IsRightAt Q (call.ForcePush v) (reply.ForcePush (Err (force.Closed w))) = (w ≡ v) × (Q.closed ≡ true)
IsRightAt Q call.Pop (reply.Pop (Err pop.Empty)) = (Q.items ≡ []) × (Q.coming ≡ None) × (Q.closed ≡ false)
IsRightAt Q call.Pop (reply.Pop (Err pop.Closed)) = (Q.items ≡ []) × (Q.coming ≡ None) × (Q.closed ≡ true)
IsRightAt Q call.Close (reply.Close false) = Q.closed ≡ true
IsRightAt Q call.IsClosed (reply.IsClosed b) = b ≡ Q.closed
IsRightAt Q call.IsEmpty (reply.IsEmpty b) = b ≡ is_empty Q.items
IsRightAt Q call.IsFull (reply.IsFull b) = b ≡ is_full Q
IsRightAt Q call.Len (reply.Len n) = n ≡ length Q.items
IsRightAt Q call.Capacity (reply.Capacity c) = c ≡ Q.cap
IsRightAt Q _ _ = ⊥

-- a push may ask for a block: the queue has no capacity and is open, and it has accepted nothing or is one item short of a block
abbrev pub MayAsk : {T : Type 0} → State T → Type 0
MayAsk Q = (Q.cap ≡ None) × (Q.closed ≡ false) × ((Q.accepted ≡ 0) ⊎ (Q.accepted % BLOCK_SLOTS ≡ BLOCK_SLOTS - 1))

-- a push was refused a block at this state, and hands back the value that it brought
abbrev pub LacksMemory : {T : Type 0} → State T → Call T → Reply T → Type 0
LacksMemory Q (call.Push v) (reply.Push (Err (push.NoMemory w))) = (w ≡ v) × MayAsk Q
LacksMemory Q (call.ForcePush v) (reply.ForcePush (Err (force.NoMemory w))) = (w ≡ v) × MayAsk Q
LacksMemory Q _ _ = ⊥

-- the call may end at this state with this reply and no effect
abbrev pub Allows : {T : Type 0} → Call T → Reply T → State T → Type 0
Allows c r Q = IsRightAt Q c r ⊎ LacksMemory Q c r

-- the call's own effects, in their order, are those that its reply stands for
abbrev pub Tells : {T : Type 0} → Call T → Reply T → List (Effect T) → Type 0
Tells (call.Push v) (reply.Push (Ok done)) es = es ≡ effect.Append v ∷ []
Tells (call.Push v) (reply.Push (Err (push.Full w))) es = (w ≡ v) × (es ≡ [])
Tells (call.Push v) (reply.Push (Err (push.Closed w))) es = (w ≡ v) × ((es ≡ effect.SelfClose ∷ []) ⊎ (es ≡ []))
Tells (call.Push v) (reply.Push (Err (push.NoMemory w))) es = (w ≡ v) × (es ≡ [])
Tells (call.ForcePush v) (reply.ForcePush (Ok None)) es = es ≡ effect.Append v ∷ []
Tells (call.ForcePush v) (reply.ForcePush (Ok (Some old))) es = (es ≡ effect.Replace old v ∷ []) ⊎ (es ≡ effect.Front old v ∷ effect.Arrive ∷ [])
Tells (call.ForcePush v) (reply.ForcePush (Err (force.Closed w))) es = (w ≡ v) × ((es ≡ effect.SelfClose ∷ []) ⊎ (es ≡ []))
Tells (call.ForcePush v) (reply.ForcePush (Err (force.NoMemory w))) es = (w ≡ v) × (es ≡ [])
Tells call.Pop (reply.Pop (Ok x)) es = es ≡ effect.Take x ∷ []
Tells call.Pop (reply.Pop (Err why)) es = es ≡ []
Tells call.Close (reply.Close true) es = es ≡ effect.Close ∷ []
Tells call.Close (reply.Close false) es = es ≡ []
Tells call.IsClosed (reply.IsClosed b) es = es ≡ []
Tells call.IsEmpty (reply.IsEmpty b) es = es ≡ []
Tells call.IsFull (reply.IsFull b) es = es ≡ []
Tells call.Len (reply.Len n) es = es ≡ []
Tells call.Capacity (reply.Capacity c) es = es ≡ []
Tells _ _ es = ⊥
