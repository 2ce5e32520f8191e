-- What a script prints is put part by part: the replies, the line of the blocks, and what is left.
use Rattle.std.proofs.Common.{◌≡◌, ℕ, List, [], ◌++◌, Option, Result, Ok, Err, MatchResult, OnErr, refl, inr}
use Rattle.std.specs.Io.KnownBytes.{Appends}
use Rattle.queue_steps.specs.{Sequential.Owned, Sequential.fresh, declared.model.Call.Call}
use Rattle.app_text.specs.{KindNames.capacity_of, Replies.replies_text, Streams.IsBegun, Streams.LeavesRest, declared.args.KindName.KindName, declared.faults.Fault.Fault, declared.faults.Fault.Fault as fault}
use Rattle.app_text.proofs.Writing.{begun-more, rest-then, begun-then, rest-all, rest-begun}
use Rattle.app_command.proofs.Playing.{played_none, played_so}
use Rattle.app_command.specs.{Left.left_text, Runs.IsWritten, Runs.IsPartWritten, Runs.IsWriteFault, Scripts.PlaysAs, Scripts.BeginsToPlay, Scripts.IsTranscript, Scripts.blocks_text}

-- the calls were played on the queue that was made, and nothing was held before
pub record Played (k : KindName) (calls : List (Call ℕ)) (Q : Owned ℕ) (kept : List ℕ) (old now : Option (List ℕ)) : Type 0 where
  pub start : Owned ℕ
  pub held : List ℕ
  pub made : start ≡ fresh (capacity_of k)
  pub none : held ≡ []
  pub plays : PlaysAs start calls Q held kept old now

from_fresh : (k : KindName) (calls : List (Call ℕ)) (Q : Owned ℕ) (kept : List ℕ) (old now : Option (List ℕ)) → Played k calls Q kept old now → PlaysAs (fresh (capacity_of k)) calls Q [] kept old now
from_fresh k calls Q kept old now p = rw (p.made, p.none) at p.plays

-- the replies could not be put
pub part_of_replies : (k : KindName) (calls : List (Call ℕ)) (P : Owned ℕ) (held : List ℕ) (old new : Option (List ℕ)) → P ≡ fresh (capacity_of k) → held ≡ [] → BeginsToPlay P calls held old new → IsPartWritten (IsTranscript k calls) old new
part_of_replies k calls P held old new made none played =
    let b = rw (made, none) at played in
    let replies : List ℕ = replies_text b.replies in let blocks : List ℕ = blocks_text k b.after.blocks in let left : List ℕ = left_text b.after.queue.items in record {
      text = (replies ++ blocks) ++ left;
      is_text = record { replies = b.replies; after = b.after; plays = b.plays; written = refl };
      output = begun-more old new (replies ++ blocks) left (begun-more old new replies blocks b.begun);
    }

-- nothing could be put
pub part_of_none : (k : KindName) (calls : List (Call ℕ)) (old : Option (List ℕ)) → IsPartWritten (IsTranscript k calls) old old
part_of_none k calls old =
    let P : Owned ℕ = fresh (capacity_of k) in part_of_replies k calls P [] old old refl refl (played_so P P calls calls [] [] old old (played_none P calls calls [] old refl))

-- the line of the blocks could not be put
pub part_of_blocks : (k : KindName) (calls : List (Call ℕ)) (Q : Owned ℕ) (count : ℕ) (kept : List ℕ) (old now new : Option (List ℕ)) → Played k calls Q kept old now → count ≡ Q.blocks → IsBegun now new (kept ++ blocks_text k count)
    → IsPartWritten (IsTranscript k calls) old new
part_of_blocks k calls Q count kept old now new played counts unput =
    let p : PlaysAs (fresh (capacity_of k)) calls Q [] kept old now = from_fresh k calls Q kept old now played in
    let begun = rw counts at unput in
    let replies : List ℕ = replies_text p.replies in let blocks : List ℕ = blocks_text k Q.blocks in let left : List ℕ = left_text Q.queue.items in record {
      text = (replies ++ blocks) ++ left;
      is_text = record { replies = p.replies; after = Q; plays = p.plays; written = refl };
      output = begun-more old new (replies ++ blocks) left (begun-then old now new replies kept blocks p.put begun);
    }

-- what is left could not be put
pub part_of_left : (k : KindName) (calls : List (Call ℕ)) (Q : Owned ℕ) (count : ℕ) (kept mid : List ℕ) (old now next new : Option (List ℕ)) → Played k calls Q kept old now → count ≡ Q.blocks → LeavesRest now next (kept ++ blocks_text k count) mid
    → IsBegun next new (mid ++ left_text Q.queue.items) → IsPartWritten (IsTranscript k calls) old new
part_of_left k calls Q count kept mid old now next new played counts told begun =
    let p : PlaysAs (fresh (capacity_of k)) calls Q [] kept old now = from_fresh k calls Q kept old now played in
    let put = rw counts at told in
    let replies : List ℕ = replies_text p.replies in let blocks : List ℕ = blocks_text k Q.blocks in let left : List ℕ = left_text Q.queue.items in record {
      text = (replies ++ blocks) ++ left;
      is_text = record { replies = p.replies; after = Q; plays = p.plays; written = refl };
      output = begun-then old next new (replies ++ blocks) mid left (rest-then old now next replies kept blocks mid p.put put) begun;
    }

-- all was put, and what is held was written or not
pub all_put : (k : KindName) (calls : List (Call ℕ)) (Q : Owned ℕ) (count : ℕ) (kept mid last : List ℕ) (old now next then : Option (List ℕ)) → Played k calls Q kept old now → count ≡ Q.blocks → LeavesRest now next (kept ++ blocks_text k count) mid
    → LeavesRest next then (mid ++ left_text Q.queue.items) last → (new : Option (List ℕ)) (r : Result Unit Fault) → MatchResult r (λ u. Appends then new last) (λ why. why ≡ fault.OutputFailed) → OnErr r (IsBegun then new last)
    → MatchResult r (λ u. IsWritten (IsTranscript k calls) old new) (IsWriteFault (IsTranscript k calls) old new)
all_put k calls Q count kept mid last old now next then played counts told left new r wrote begun = by_end r wrote begun
  where
    p : PlaysAs (fresh (capacity_of k)) calls Q [] kept old now
    p = from_fresh k calls Q kept old now played

    blocks : LeavesRest now next (kept ++ blocks_text k Q.blocks) mid
    blocks = rw (← counts) told

    text : List ℕ
    text = (replies_text p.replies ++ blocks_text k Q.blocks) ++ left_text Q.queue.items

    is_text : IsTranscript k calls text
    is_text = record { replies = p.replies; after = Q; plays = p.plays; written = refl }

    put : LeavesRest old then text last
    put = rest-then old next then (replies_text p.replies ++ blocks_text k Q.blocks) mid (left_text Q.queue.items) last (rest-then old now next (replies_text p.replies) kept (blocks_text k Q.blocks) mid p.put blocks) left

    by_end : (r : Result Unit Fault) → MatchResult r (λ u. Appends then new last) (λ why. why ≡ fault.OutputFailed) → OnErr r (IsBegun then new last)
        → MatchResult r (λ u. IsWritten (IsTranscript k calls) old new) (IsWriteFault (IsTranscript k calls) old new)
    by_end (Ok u) wrote begun = record { text = text; is_text = is_text; output = rest-all old then new text last put wrote }
    by_end (Err why) failed begun = (inr failed, record { text = text; is_text = is_text; output = rest-begun old then new text last put begun })
