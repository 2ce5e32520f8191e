-- A script is played, and its replies are put, part by part.
use Rattle.std.proofs.Common.{◌≡◌, ℕ, ◌+◌, take, drop, List, [], ◌∷◌, ◌++◌, Option, refl, sym, ap, subst, ◌∙◌, append_assoc, append-nil, inl}
use Rattle.std.proofs.lemmas.{List.flat_map_more, List.take-append-drop, Grind.flat_map-append}
use Rattle.queue_steps.specs.{Sequential.Owned, Sequential.SequentialRun, Sequential.sequential_reply, Sequential.sequential_state, Sequential.moved, declared.model.Call.Call, declared.model.Reply.Reply}
use Rattle.app_text.specs.{Replies.reply_text, Replies.replies_text, Streams.IsBegun, Streams.LeavesRest}
use Rattle.app_text.proofs.Writing.{begun-more, rest-then, begun-then, put_nothing, writes-begun, writes-first}
use Rattle.exclusive_queue.proofs.SequentialRuns.{run_then}
use Rattle.app_command.specs.Scripts.{PlaysAs, BeginsToPlay}

-- whatever is called, there are replies
pub record HasReplies (P : Owned ℕ) (calls : List (Call ℕ)) : Type 0 where
  pub replies : List (Reply ℕ)
  pub after : Owned ℕ
  pub plays : SequentialRun P calls replies after

goes : (P : Owned ℕ) (calls : List (Call ℕ)) → HasReplies P calls
goes P [] = record { replies = []; after = P; plays = refl }
goes P (c ∷ cs) =
    let next : Owned ℕ = moved P (sequential_state P.queue c) in
    let rest : HasReplies next cs = goes next cs in
    record { replies = sequential_reply P.queue c ∷ rest.replies; after = rest.after; plays = (next, (inl (refl, refl), rest.plays)) }

-- the replies so far, and one more
more_text : (held : List ℕ) (rs : List (Reply ℕ)) (r : Reply ℕ) → (held ++ replies_text rs) ++ (reply_text r ++ 10 ∷ []) ≡ held ++ replies_text (rs ++ r ∷ [])
more_text held rs r = flat_map_more (λ r. reply_text r ++ 10 ∷ []) held rs r

-- the replies so far, and others behind them
then_text : (held : List ℕ) (rs ss : List (Reply ℕ)) → held ++ replies_text (rs ++ ss) ≡ (held ++ replies_text rs) ++ replies_text ss
then_text held rs ss = ap (λ l. held ++ l) (flat_map-append (λ r. reply_text r ++ 10 ∷ []) rs ss) ∙ sym (append_assoc held (replies_text rs) (replies_text ss))

-- one reply more is put behind the others
pub put_more : (rs more : List (Reply ℕ)) (r : Reply ℕ) (held mid kept : List ℕ) (old now new : Option (List ℕ)) → LeavesRest old now (held ++ replies_text rs) mid → more ≡ rs ++ r ∷ []
    → LeavesRest now new (mid ++ (reply_text r ++ 10 ∷ [])) kept → LeavesRest old new (held ++ replies_text more) kept
put_more rs more r held mid kept old now new before is put = rw (is, ← more_text held rs r) (rest-then old now new (held ++ replies_text rs) mid (reply_text r ++ 10 ∷ []) kept before put)

-- a reply could not be put behind the others
pub put_part : (n : ℕ) (rs : List (Reply ℕ)) (r : Reply ℕ) (held mid : List ℕ) (old now new : Option (List ℕ)) → LeavesRest old now (held ++ replies_text (take n rs)) mid → take (n + 1) rs ≡ take n rs ++ r ∷ []
    → IsBegun now new (mid ++ (reply_text r ++ 10 ∷ [])) → IsBegun old new (held ++ replies_text rs)
put_part n rs r held mid old now new before is begun =
    let behind : List (Reply ℕ) = drop (n + 1) rs in
    let parts : (take n rs ++ r ∷ []) ++ behind ≡ rs = ap (λ l. l ++ behind) (sym is) ∙ take-append-drop (n + 1) rs in
    let here : IsBegun old new (held ++ replies_text (take n rs ++ r ∷ [])) = rw (← more_text held (take n rs) r) (begun-then old now new (held ++ replies_text (take n rs)) mid (reply_text r ++ 10 ∷ []) before begun) in
    let all : IsBegun old new (held ++ replies_text ((take n rs ++ r ∷ []) ++ behind)) = rw (then_text held (take n rs ++ r ∷ []) behind) (begun-more old new (held ++ replies_text (take n rs ++ r ∷ [])) (replies_text behind) here) in
    subst (λ l. IsBegun old new (held ++ replies_text l)) parts all

-- the calls but these last ones were played
pub record PlaysSo (P : Owned ℕ) (all rest : List (Call ℕ)) (Q : Owned ℕ) (held kept : List ℕ) (old new : Option (List ℕ)) : Type 0 where
  pub done : List (Call ℕ)
  pub parts : all ≡ done ++ rest
  pub plays : PlaysAs P done Q held kept old new

-- nothing is played yet
pub played_none : (P : Owned ℕ) (all rest : List (Call ℕ)) (held : List ℕ) (old : Option (List ℕ)) → rest ≡ all → PlaysSo P all rest P held held old old
played_none P all rest held old same = record { done = []; parts = sym same; plays = record { replies = []; plays = refl; put = put_nothing old held } }

module _ (P Q R : Owned ℕ) (all rest part after : List (Call ℕ)) (rs : List (Reply ℕ)) (held mid : List ℕ) where
  -- some calls more are played
  pub played_more : (kept : List ℕ) (old now new : Option (List ℕ)) → PlaysSo P all rest Q held mid old now → rest ≡ part ++ after → SequentialRun Q part rs R
      → LeavesRest now new (mid ++ replies_text rs) kept → PlaysSo P all after R held kept old new
  played_more kept old now new so is ran put =
      let before = so.plays in
      record {
        done = so.done ++ part;
        parts = so.parts ∙ ap (λ l. so.done ++ l) is ∙ sym (append_assoc so.done part after);
        plays = record {
          replies = before.replies ++ rs;
          plays = run_then P Q R so.done part before.replies rs before.plays ran;
          put = rw (then_text held before.replies rs) (rest-then old now new (held ++ replies_text before.replies) mid (replies_text rs) kept before.put put);
        };
      }

  -- the replies to some calls more could not be put: whatever calls there are behind them, they have replies
  pub played_part : (old now new : Option (List ℕ)) → PlaysSo P all rest Q held mid old now → rest ≡ part ++ after → SequentialRun Q part rs R
      → IsBegun now new (mid ++ replies_text rs) → BeginsToPlay P all held old new
  played_part old now new so is ran begun =
      let before = so.plays in
      let left : HasReplies R after = goes R after in
      let replies : List (Reply ℕ) = before.replies ++ rs in
      let parts : all ≡ (so.done ++ part) ++ after = so.parts ∙ ap (λ l. so.done ++ l) is ∙ sym (append_assoc so.done part after) in
      let here : IsBegun old new (held ++ replies_text replies) = rw (then_text held before.replies rs) (begun-then old now new (held ++ replies_text before.replies) mid (replies_text rs) before.put begun) in
      record {
        replies = replies ++ left.replies;
        after = left.after;
        plays = rw parts (run_then P R left.after (so.done ++ part) after replies left.replies (run_then P Q R so.done part before.replies rs before.plays ran) left.plays);
        begun = rw (then_text held replies left.replies) (begun-more old new (held ++ replies_text replies) (replies_text left.replies) here);
      }

-- no call more could be made
pub played_so : (P Q : Owned ℕ) (all rest : List (Call ℕ)) (held mid : List ℕ) (old now : Option (List ℕ)) → PlaysSo P all rest Q held mid old now → BeginsToPlay P all held old now
played_so P Q all rest held mid old now so =
    played_part P Q Q all rest [] rest [] held mid old now now so refl refl (rw (append-nil mid) (writes-begun now now mid mid (writes-first now mid)))
