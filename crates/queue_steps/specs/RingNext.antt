-- The steps of a ring.
use Rattle.std.specs.Prelude.{◌≡◌, ℕ, ◌+◌, ◌-◌, ◌%◌, ◌≤◌, ◌==◌, Some, None, Ok, Err, if◌then◌else◌}
use Rattle.queue_steps.specs.declared.{sizes.TheConstants.LIMIT, model.Call.Call, model.Reply.Reply, model.Reply.Reply as reply, errors.PopError.PopError as pop, errors.PushError.PushError as push, errors.ForcePushError.ForcePushError as force}
use Rattle.queue_steps.specs.declared.steps.types.{Answer.Answer, Answer.TheVariants.Found, Answer.TheVariants.Done, Local.Local as local, Next.Next, Next.Next as next, Op.Op, Op.Op as op, Touch.Touch, Touch.Touch as touch, Word.Word, Word.Word as word}
use Rattle.queue_steps.specs.declared.steps.ring.{TheConstants.MARK, TheConstants.TAIL_STEP, PushKind.PushKind, PushKind.PushKind as kind, RingLocal.RingLocal, RingLocal.RingLocal as ring}
use Rattle.queue_steps.specs.declared.steps.looks.{CallView.CallView, CallView.CallView as view, Look.Look, Look.Look as look}
use Rattle.queue_steps.specs.{Looks.call_view, Looks.reply_of_look, Words.IsWord, Words.position_of, Words.is_shut, Words.slot_at, Words.stamp_free, Words.stamp_filled, Words.stamp_emptied}

-- one step, after which the call waits at l
abbrev pub at : {B : Type 0} → RingLocal → Touch → Op B → Next B
at l t o = next.Step (local.Ring l) t o

abbrev pub loads : {B : Type 0} → RingLocal → Word B → Next B
loads l w = at l touch.Nothing (op.Load w)

-- the end of the call
abbrev pub ends : {B : Type 0} → Reply Unit → Next B
ends r = next.Reply r None

-- the stamp is a word; one of the lap before is that of a position
pub record FitsStamp (n tail stamp : ℕ) : Type 0 where
  pub tail_word : IsWord tail
  pub stamp_word : IsWord stamp
  pub lapped : stamp + n ≡ position_of tail + 1 → n ≤ position_of tail

-- the answer fits what was asked, and the words are those of a ring of n slots
abbrev pub FitsRing : {B : Type 0} → ℕ → RingLocal → Answer B → Type 0
FitsRing n (ring.PushTail p) (Found tail) = IsWord tail
FitsRing n (ring.PushStamp p tail) (Found stamp) = FitsStamp n tail stamp
FitsRing n (ring.Claiming p tail) (Found found) = IsWord tail × IsWord found
FitsRing n (ring.Filling p) Done = Unit {0}
FitsRing n (ring.PushHead tail) (Found head) = IsWord tail × IsWord head
FitsRing n (ring.Displacing tail) (Found head) = IsWord tail × IsWord head
FitsRing n (ring.Arriving tail) (Found before) = IsWord tail
FitsRing n ring.Swapping Done = Unit {0}
FitsRing n (ring.ClosingAtLimit p) (Found before) = Unit {0}
FitsRing n ring.PopHead (Found head) = IsWord head
FitsRing n (ring.PopStamp head) (Found stamp) = IsWord head
FitsRing n (ring.Taking head) (Found found) = IsWord head × IsWord found
FitsRing n ring.Emptying Done = Unit {0}
FitsRing n (ring.PopTail head) (Found tail) = Unit {0}
FitsRing n (ring.CountTail g) (Found tail) = Unit {0}
FitsRing n (ring.CountHead g tail) (Found head) = Unit {0}
FitsRing n (ring.CountAgain g tail head) (Found again) = again ≡ tail → head ≤ position_of tail
FitsRing n ring.EmptyHead (Found head) = Unit {0}
FitsRing n (ring.EmptyTail head) (Found tail) = Unit {0}
FitsRing n ring.FullTail (Found tail) = Unit {0}
FitsRing n (ring.FullHead tail) (Found head) = IsWord head
FitsRing n ring.Closing (Found tail) = Unit {0}
FitsRing n ring.ClosedTail (Found tail) = Unit {0}
FitsRing n _ _ = ⊥

-- where a look begins: whether the ring is empty or full is told by two loads, and any other look counts the items
abbrev pub ring_look : {B : Type 0} → Look → Next B
ring_look look.IsClosed = loads ring.ClosedTail word.Tail
ring_look look.IsEmpty = loads ring.EmptyHead word.Head
ring_look look.IsFull = loads ring.FullTail word.Tail
ring_look l = loads (ring.CountTail l) word.Tail

-- where a call begins, by what it does
abbrev pub ring_start : {B : Type 0} → ℕ → CallView → Next B
ring_start n (view.Push p) = loads (ring.PushTail p) word.Tail
ring_start n view.Pop = loads ring.PopHead word.Head
ring_start n view.Close = at ring.Closing touch.Nothing (op.Or word.Tail MARK)
ring_start n (view.Look l) = ring_look l
ring_start n view.Capacity = ends (reply.Capacity (Some n))

abbrev pub ring_begin : {B : Type 0} → ℕ → Call Unit → Next B
ring_begin n c = ring_start n (call_view c)

abbrev pub closed_reply : PushKind → Reply Unit
closed_reply kind.Push = reply.Push (Err (push.Closed tt))
closed_reply kind.Force = reply.ForcePush (Err (force.Closed tt))

abbrev pub pushed_reply : PushKind → Reply Unit
pushed_reply kind.Push = reply.Push (Ok tt)
pushed_reply kind.Force = reply.ForcePush (Ok None)

-- after a tail that a push found
abbrev pub tail_found : {B : Type 0} → ℕ → PushKind → ℕ → Next B
tail_found n p tail =
    if is_shut tail then ends (closed_reply p)
    else (if position_of tail == LIMIT then at (ring.ClosingAtLimit p) touch.Nothing (op.Or word.Tail MARK)
    else loads (ring.PushStamp p tail) (word.Stamp (slot_at n (position_of tail))))

-- where the slot still holds the item of the lap before
abbrev pub lap_found : {B : Type 0} → ℕ → PushKind → ℕ → Next B
lap_found n kind.Push tail = loads (ring.PushHead tail) word.Head
lap_found n kind.Force tail = at (ring.Displacing tail) touch.Nothing (op.Exchange word.Head (position_of tail - n) (position_of tail - n + 1))

abbrev pub push_stamp_found : {B : Type 0} → ℕ → PushKind → ℕ → ℕ → Next B
push_stamp_found n p tail stamp =
    if stamp == stamp_free (position_of tail) then at (ring.Claiming p tail) touch.Nothing (op.Exchange word.Tail tail (tail + TAIL_STEP))
    else (if stamp + n == stamp_filled (position_of tail) then lap_found n p tail
    else loads (ring.PushTail p) word.Tail)

-- after a head that a pop found
abbrev pub head_found : {B : Type 0} → ℕ → ℕ → Next B
head_found n head = loads (ring.PopStamp head) (word.Stamp (slot_at n head))

abbrev pub pop_stamp_found : {B : Type 0} → ℕ → ℕ → Next B
pop_stamp_found head stamp =
    if stamp == stamp_filled head then at (ring.Taking head) touch.Nothing (op.Exchange word.Head head (head + 1))
    else (if stamp == stamp_free head then loads (ring.PopTail head) word.Tail
    else loads ring.PopHead word.Head)

abbrev pub pop_tail_found : {B : Type 0} → ℕ → ℕ → Next B
pop_tail_found head tail =
    if position_of tail == head then ends (reply.Pop (Err (if is_shut tail then pop.Closed else pop.Empty)))
    else loads ring.PopHead word.Head

-- after the second read of a tail
abbrev pub count_found : {B : Type 0} → ℕ → Look → ℕ → ℕ → ℕ → Next B
count_found n l tail head again = if again == tail then ends (reply_of_look (Some n) (position_of tail - head) (is_shut tail) l) else loads (ring.CountTail l) word.Tail

-- after the answer to the last step. The last line stands for what `FitsRing` excludes
abbrev pub ring_next : {B : Type 0} → ℕ → RingLocal → Answer B → Next B
ring_next n (ring.PushTail p) (Found tail) = tail_found n p tail
ring_next n (ring.PushStamp p tail) (Found stamp) = push_stamp_found n p tail stamp
ring_next n (ring.Claiming p tail) (Found found) =
    if found == tail then at (ring.Filling p) (touch.Put (slot_at n (position_of tail))) (op.Store (word.Stamp (slot_at n (position_of tail))) (stamp_filled (position_of tail)))
    else tail_found n p found
ring_next n (ring.Filling p) Done = ends (pushed_reply p)
ring_next n (ring.PushHead tail) (Found head) =
    if head + n == position_of tail then ends (reply.Push (Err (push.Full tt)))
    else loads (ring.PushTail kind.Push) word.Tail
ring_next n (ring.Displacing tail) (Found head) =
    if head + n == position_of tail then at (ring.Arriving tail) touch.Nothing (op.Add word.Tail TAIL_STEP)
    else loads (ring.PushTail kind.Force) word.Tail
ring_next n (ring.Arriving tail) (Found before) =
    at ring.Swapping (touch.Swap (slot_at n (position_of tail))) (op.Store (word.Stamp (slot_at n (position_of tail))) (stamp_filled (position_of tail)))
ring_next n ring.Swapping Done = ends (reply.ForcePush (Ok (Some tt)))
ring_next n (ring.ClosingAtLimit p) (Found before) = ends (closed_reply p)
ring_next n ring.PopHead (Found head) = head_found n head
ring_next n (ring.PopStamp head) (Found stamp) = pop_stamp_found head stamp
ring_next n (ring.Taking head) (Found found) =
    if found == head then at ring.Emptying (touch.Take (slot_at n head)) (op.Store (word.Stamp (slot_at n head)) (stamp_emptied n head))
    else head_found n found
ring_next n ring.Emptying Done = ends (reply.Pop (Ok tt))
ring_next n (ring.PopTail head) (Found tail) = pop_tail_found head tail
ring_next n (ring.CountTail g) (Found tail) = loads (ring.CountHead g tail) word.Head
ring_next n (ring.CountHead g tail) (Found head) = loads (ring.CountAgain g tail head) word.Tail
ring_next n (ring.CountAgain g tail head) (Found again) = count_found n g tail head again
ring_next n ring.EmptyHead (Found head) = loads (ring.EmptyTail head) word.Tail
ring_next n (ring.EmptyTail head) (Found tail) = ends (reply.IsEmpty (position_of tail == head))
ring_next n ring.FullTail (Found tail) = loads (ring.FullHead tail) word.Head
ring_next n (ring.FullHead tail) (Found head) = ends (reply.IsFull (head + n == position_of tail))
ring_next n ring.Closing (Found tail) = ends (reply.Close (tail % 2 == 0))
ring_next n ring.ClosedTail (Found tail) = ends (reply.IsClosed (is_shut tail))
ring_next n _ _ = ends (reply.Capacity None)
