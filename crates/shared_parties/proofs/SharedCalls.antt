-- How a call's effect, or the moment at which its reply was right, makes it a shared call of its party.
use Rattle.std.proofs.Common.{◌≡◌, ℕ, ◌+◌, inl, List, [], ◌∷◌, ◌++◌, length, Option, refl, sym, ◌∙◌}
use Rattle.std.proofs.lemmas.List.{append-nil}
use mathlib.Core.List.{IsPrefix}
use Rattle.atomic_table.proofs.Lists.{at_last}
use Rattle.queue_laws.specs.Common.Vocabulary.{Call, Reply, Effect}
use Rattle.queue_steps.specs.{Effect.IsHistory, Effect.after, Replies.IsRightAt, Replies.Tells, Parties.View, Parties.SharedCall}
use Rattle.shared_parties.proofs.Histories.{prefix_trans, prefix_more, prefix_length}

module _ {T : Type 0} where
  -- a call that adds nothing, whose reply was right after the history h
  pub quiet : (cap : Option ℕ) (v w : View T) (h : List (Effect T)) (c : Call T) (r : Reply T) → IsPrefix v.seen h → IsPrefix h w.seen → IsHistory cap w.seen → w.mine ≡ v.mine → w.share ≡ v.share
      → Tells c r [] → IsRightAt (after cap h) c r → SharedCall cap v w c r
  quiet cap v w h c r old new legal mine share tells right = record {
    begins = prefix_trans v.seen h w.seen old new;
    legal = legal;
    effects = [];
    places = [];
    tells = tells;
    stand = tt;
    mine = mine ∙ sym (append-nil v.mine);
    share = share;
    right = λ none. (h, old, new, inl right);
    displaces = tt;
  }

  -- a call that adds one effect after the history h
  pub adds : (cap : Option ℕ) (v : View T) (h : List (Effect T)) (e : Effect T) (c : Call T) (r : Reply T) → IsPrefix v.seen h → IsHistory cap (h ++ e ∷ [])
      → Tells c r (e ∷ []) → SharedCall cap v (record { seen = h ++ e ∷ []; mine = v.mine ++ length h ∷ []; share = v.share }) c r
  adds cap v h e c r old legal tells = record {
    begins = prefix_more v.seen h (e ∷ []) old;
    legal = legal;
    effects = e ∷ [];
    places = length h ∷ [];
    tells = tells;
    stand = (prefix_length v.seen h old, at_last h e (length h) refl, tt);
    mine = refl;
    share = refl;
    right = λ none. absurd cc;
    displaces = tt;
  }
