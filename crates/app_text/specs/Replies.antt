-- What is printed of replies.
use Rattle.std.specs.Prelude.{ℕ, true, false, List, [], ◌∷◌, ◌++◌, codes, flat_map, Option, Some, None, Ok, Err, Bool}
use Rattle.std.specs.Fmt.{decimal}
use Rattle.queue_steps.specs.declared.{model.Reply.Reply, model.Reply.Reply as reply, errors.PopError.PopError as pop, errors.PushError.PushError as push, errors.ForcePushError.ForcePushError as force}

abbrev pub truth_text : Bool → List ℕ
truth_text true = codes "true"
truth_text false = codes "false"

-- a number, if there is one
abbrev pub number_text : Option ℕ → List ℕ
number_text None = []
number_text (Some n) = decimal n

abbrev pub reply_text : Reply ℕ → List ℕ
reply_text (reply.Push (Ok u)) = codes "ok"
reply_text (reply.Push (Err (push.Full n))) = codes "full " ++ decimal n
reply_text (reply.Push (Err (push.Closed n))) = codes "closed " ++ decimal n
reply_text (reply.Push (Err (push.NoMemory n))) = codes "no memory " ++ decimal n
reply_text (reply.ForcePush (Ok None)) = codes "ok"
reply_text (reply.ForcePush (Ok (Some n))) = codes "displaced " ++ decimal n
reply_text (reply.ForcePush (Err (force.Closed n))) = codes "closed " ++ decimal n
reply_text (reply.ForcePush (Err (force.NoMemory n))) = codes "no memory " ++ decimal n
reply_text (reply.Pop (Ok n)) = codes "item " ++ decimal n
reply_text (reply.Pop (Err pop.Empty)) = codes "empty"
reply_text (reply.Pop (Err pop.Closed)) = codes "closed"
reply_text (reply.Close b) = truth_text b
reply_text (reply.IsClosed b) = truth_text b
reply_text (reply.IsEmpty b) = truth_text b
reply_text (reply.IsFull b) = truth_text b
reply_text (reply.Len n) = decimal n
reply_text (reply.Capacity (Some n)) = decimal n
reply_text (reply.Capacity None) = codes "none"

-- one reply a line
abbrev pub replies_text : List (Reply ℕ) → List ℕ
replies_text rs = flat_map (λ r. reply_text r ++ 10 ∷ []) rs
