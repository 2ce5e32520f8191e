-- A script: calls on a queue with one owner, and what is written of them.
use Rattle.std.specs.Prelude.{◌≡◌, ℕ, List, [], ◌∷◌, ◌++◌, codes, Option}
use Rattle.std.specs.Fmt.{decimal}
use Rattle.queue_steps.specs.{Sequential.Owned, Sequential.fresh, Sequential.SequentialRun, declared.model.Call.Call, declared.model.Reply.Reply}
use Rattle.app_text.specs.{KindNames.capacity_of, Replies.replies_text, Streams.IsBegun, Streams.LeavesRest, declared.args.KindName.KindName, declared.args.KindName.KindName as kind}
use Rattle.app_command.specs.Left.{left_text}

-- the calls lead from P to R, and their replies, one a line, were put behind what was held
pub record PlaysAs (P : Owned ℕ) (calls : List (Call ℕ)) (R : Owned ℕ) (held kept : List ℕ) (old new : Option (List ℕ)) : Type 0 where
  pub replies : List (Reply ℕ)
  pub plays : SequentialRun P calls replies R
  pub put : LeavesRest old new (held ++ replies_text replies) kept

-- the calls lead from P on, and a beginning of what was held and of their replies was written
pub record BeginsToPlay (P : Owned ℕ) (calls : List (Call ℕ)) (held : List ℕ) (old new : Option (List ℕ)) : Type 0 where
  pub replies : List (Reply ℕ)
  pub after : Owned ℕ
  pub plays : SequentialRun P calls replies after
  pub begun : IsBegun old new (held ++ replies_text replies)

-- the line of the blocks that are held, which a queue without a capacity alone has
abbrev pub blocks_text : KindName → ℕ → List ℕ
blocks_text kind.Unbounded count = codes "blocks " ++ decimal count ++ 10 ∷ []
blocks_text _ count = []

-- the text is the replies that one owner of a queue of this kind gets to the calls, the line of its blocks, and the line of what is left
pub record IsTranscript (k : KindName) (calls : List (Call ℕ)) (text : List ℕ) : Type 0 where
  pub replies : List (Reply ℕ)
  pub after : Owned ℕ
  pub plays : SequentialRun (fresh (capacity_of k)) calls replies after
  pub written : text ≡ (replies_text replies ++ blocks_text k after.blocks) ++ left_text after.queue.items
