-- A history settles into one whose displacements are moments, with the same calls.
use Rattle.std.proofs.Common.{◌≡◌, ℕ, ◌<◌, List, [], Option, None, refl, ap, sym, ◌∙◌, subst, inl, arith, append-nil}
use Rattle.std.specs.List.{AllPairs}
use Rattle.queue_laws.specs.{Common.Vocabulary.Call, Common.Vocabulary.Reply, Common.Vocabulary.Effect, Moment.Moments.IsAtOnce, Moment.Moments.IsGlance, Moment.Moments.OneMoment}
use Rattle.queue_laws.specs.Moment.Entries.{Entry, effects_in, state_before, settle, HistoriesSettle}
use Rattle.queue_steps.specs.{Effect.IsHistory, Effect.after, Replies.Allows}
use Rattle.queue_laws.proofs.Moment.{Answering.displaces_at_once, Naming.Rising, Naming.effects_settle, Naming.settle_flat, Naming.flat_pairs, Naming.pairs_rising, Choosing.before, Choosing.later, Choosing.both_parts, Choosing.settle_before, Owning.own_same, Owning.own_begun}

module _ {T : Type 0} where
  pub rising : (H : List (Entry T)) → AllPairs (λ x y. x.event < y.event) H → Rising 0 H
  rising H all = pairs_rising 0 H all (λ i d inside. omega arith)

  settles_before : (cap : Option ℕ) (H : List (Entry T)) → IsHistory cap (effects_in H) → Rising 0 H → (n : ℕ) → OneMoment cap (before n H) (later n H)
  settles_before cap H legal up n = displaces_at_once cap (before n H) (later n H) (subst (IsHistory cap) (sym (both_parts n 0 H up)) legal)

  right_before : (cap : Option ℕ) (H : List (Entry T)) → IsHistory cap (effects_in H) → Rising 0 H → (n : ℕ) (c : Call T) (r : Reply T) → Allows c r (state_before cap H n)
      → (IsGlance c → (state_before cap H n).coming ≡ None) → Allows c r (state_before cap (settle H) n)
  right_before cap H legal up n c r h calm =
      subst (λ (l : List (Effect T)). Allows c r (after cap l)) (sym (settle_before n 0 H up)) ((settles_before cap H legal up n).right c r h calm)

pub histories_settle : {T : Type 0} → HistoriesSettle T
histories_settle {T} cap H legal in_order =
    let up = rising H in_order in
    let whole : OneMoment cap (effects_in H) [] = displaces_at_once cap (effects_in H) [] (subst (IsHistory cap) (sym (append-nil (effects_in H))) legal) in
    let same = effects_settle H in
    record {
      legal = subst (IsAtOnce cap) (sym same) whole.legal;
      effects = same;
      calm = λ n. ap (λ (l : List (Effect T)). (after cap l).coming) (settle_before n 0 H up) ∙ (settles_before cap H legal up n).calm;
      in_order = flat_pairs 0 (settle H) (settle_flat 0 H up);
      left = ap (after cap) same ∙ whole.same (inl refl);
      own = λ own c r within t. own_same own H c r within t;
      begun = λ own c r more within t. own_begun own H c r more within t;
      right = right_before cap H legal up;
    }
