-- The numbers and the values that C gets for the replies of calls.
use Rattle.std.specs.Prelude.{ℕ, Bool, if◌then◌else◌, Option, Some, None, Result, Ok, Err}
use Rattle.std.specs.Option.{unwrap_or}
use Rattle.queue_steps.specs.declared.{errors.PushError.PushError, errors.PushError.PushError as push, errors.ForcePushError.ForcePushError as force, errors.PopError.PopError, errors.PopError.PopError as pop, model.Reply.Reply, model.Reply.Reply as reply}
use Rattle.queue_c.specs.declared.answers.Answer.{Answer, Answer as answer}
use Rattle.queue_c.specs.Numbers.{DONE, YES, FULL, EMPTY, CLOSED, NO_MEMORY, NO_PARTY, PENDING, BUSY, IDLE}

abbrev pub yes_or_no : Bool → ℕ
yes_or_no b = if b then YES else DONE

abbrev pub push_number : Result Unit (PushError ℕ) → ℕ
push_number (Ok u) = DONE
push_number (Err (push.Full x)) = FULL
push_number (Err (push.Closed x)) = CLOSED
push_number (Err (push.NoMemory x)) = NO_MEMORY

abbrev pub pop_number : Result ℕ PopError → ℕ
pop_number (Ok x) = DONE
pop_number (Err pop.Empty) = EMPTY
pop_number (Err pop.Closed) = CLOSED

abbrev pub reply_number : Reply ℕ → ℕ
reply_number (reply.Push p) = push_number p
reply_number (reply.ForcePush (Ok None)) = DONE
reply_number (reply.ForcePush (Ok (Some x))) = YES
reply_number (reply.ForcePush (Err (force.Closed x))) = CLOSED
reply_number (reply.ForcePush (Err (force.NoMemory x))) = NO_MEMORY
reply_number (reply.Pop p) = pop_number p
reply_number (reply.Close b) = yes_or_no b
reply_number (reply.IsClosed b) = yes_or_no b
reply_number (reply.IsEmpty b) = yes_or_no b
reply_number (reply.IsFull b) = yes_or_no b
reply_number (reply.Len n) = DONE
reply_number (reply.Capacity c) = DONE

-- the value that comes with a reply: the front, an item that was displaced, or a length
abbrev pub reply_value : Reply ℕ → Option ℕ
reply_value (reply.Pop (Ok x)) = Some x
reply_value (reply.Pop (Err e)) = None
reply_value (reply.ForcePush (Ok x)) = x
reply_value (reply.ForcePush (Err e)) = None
reply_value (reply.Len n) = Some n
reply_value _ = None

abbrev pub number_of : Answer → ℕ
number_of (answer.Reply r) = reply_number r
number_of answer.Pending = PENDING
number_of answer.Busy = BUSY
number_of answer.Idle = IDLE
number_of answer.NoParty = NO_PARTY

-- what is where the value goes, which was `was` before
abbrev pub written : Answer → ℕ → ℕ
written (answer.Reply r) was = unwrap_or (reply_value r) was
written answer.Pending was = was
written answer.Busy was = was
written answer.Idle was = was
written answer.NoParty was = was
