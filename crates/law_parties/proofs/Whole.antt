-- What a party has done to whom every place of the history belongs: all that was ever done.
use Rattle.std.proofs.Common.{◌≡◌, ℕ, ◌+◌, Bool, cond, Option, None, List, [], ◌∷◌, ◌++◌, length, ◌==◌, refl, ap, sym, ◌∙◌, arith}
use Rattle.std.{specs.List.count_by, proofs.lemmas.List.Sums.sum_by-cons, proofs.lemmas.List.Sums.sum_by-append}
use lib.ListN.{get_elem?}
use Rattle.queue_steps.specs.{declared.model.Effect.Effect, declared.model.Effect.Effect as effect, Effect.after, Effect.with_coming, Parties.View, Parties.IsView, Parties.IsWhole}
use Rattle.queue_laws.specs.History.Histories.{handed_in, handed_out}
use Rattle.queue_laws.proofs.History.{Keeping.keeps_all, Numbers.sum_below, Numbers.sum_covering, Numbers.sum_first}
use Rattle.law_parties.specs.Doings.{passes, done_by, hands_in_such, hands_out_such, hands_in, hands_out}

module _ {T : Type 0} where
  -- over all places of a history
  at_all : (test : Effect T → Bool) (es : List (Effect T)) → sum_below (λ p. cond (passes test (get_elem? es p)) 1 0) (length es) ≡ count_by test es
  at_all test [] = refl
  at_all test (e ∷ es) =
      let first = sum_first (λ p. cond (passes test (get_elem? (e ∷ es) p)) 1 0) (length es) in
      let others = at_all test es in
      let all = sum_by-cons (λ f. cond (test f) 1 0) e es in omega (arith, first, others, all)

  pub done_by_whole : (test : Effect T → Bool) (cap : Option ℕ) (v : View T) → IsView cap v → IsWhole v → done_by test v ≡ count_by test v.seen
  done_by_whole test cap v is whole = sum_covering (λ p. cond (passes test (get_elem? v.seen p)) 1 0) (length v.seen) v.mine is.inside is.once whole ∙ at_all test v.seen

pub one_more : (b : Bool) (n m : ℕ) → n ≡ m → cond b 1 0 + n ≡ cond b 1 0 + m
one_more b n m e = ap (λ k. cond b 1 0 + k) e

none_more : (n m : ℕ) → n ≡ m → 0 + n ≡ m
none_more n m e = omega arith

module _ {T : Type 0} where
  -- how many such items were handed in, and handed out
  pub ins : (such : T → Bool) (es : List (Effect T)) → count_by (hands_in_such such) es ≡ count_by such (handed_in es)
  ins such [] = refl
  ins such (effect.Append v ∷ es) = sum_by-cons (λ e. cond (hands_in_such such e) 1 0) (effect.Append v) es ∙ (one_more (such v) _ _ (ins such es) ∙ sym (sum_by-cons (λ y. cond (such y) 1 0) v (handed_in es)))
  ins such (effect.Take v ∷ es) = sum_by-cons (λ e. cond (hands_in_such such e) 1 0) (effect.Take v) es ∙ none_more (count_by (hands_in_such such) es) (count_by such (handed_in es)) (ins such es)
  ins such (effect.Replace old v ∷ es) = sum_by-cons (λ e. cond (hands_in_such such e) 1 0) (effect.Replace old v) es ∙ (one_more (such v) _ _ (ins such es) ∙ sym (sum_by-cons (λ y. cond (such y) 1 0) v (handed_in es)))
  ins such (effect.Front old v ∷ es) = sum_by-cons (λ e. cond (hands_in_such such e) 1 0) (effect.Front old v) es ∙ (one_more (such v) _ _ (ins such es) ∙ sym (sum_by-cons (λ y. cond (such y) 1 0) v (handed_in es)))
  ins such (effect.Arrive ∷ es) = sum_by-cons (λ e. cond (hands_in_such such e) 1 0) effect.Arrive es ∙ none_more (count_by (hands_in_such such) es) (count_by such (handed_in es)) (ins such es)
  ins such (effect.Close ∷ es) = sum_by-cons (λ e. cond (hands_in_such such e) 1 0) effect.Close es ∙ none_more (count_by (hands_in_such such) es) (count_by such (handed_in es)) (ins such es)
  ins such (effect.SelfClose ∷ es) = sum_by-cons (λ e. cond (hands_in_such such e) 1 0) effect.SelfClose es ∙ none_more (count_by (hands_in_such such) es) (count_by such (handed_in es)) (ins such es)

  pub outs : (such : T → Bool) (es : List (Effect T)) → count_by (hands_out_such such) es ≡ count_by such (handed_out es)
  outs such [] = refl
  outs such (effect.Append v ∷ es) = sum_by-cons (λ e. cond (hands_out_such such e) 1 0) (effect.Append v) es ∙ none_more (count_by (hands_out_such such) es) (count_by such (handed_out es)) (outs such es)
  outs such (effect.Take v ∷ es) = sum_by-cons (λ e. cond (hands_out_such such e) 1 0) (effect.Take v) es ∙ (one_more (such v) _ _ (outs such es) ∙ sym (sum_by-cons (λ y. cond (such y) 1 0) v (handed_out es)))
  outs such (effect.Replace old v ∷ es) = sum_by-cons (λ e. cond (hands_out_such such e) 1 0) (effect.Replace old v) es ∙ (one_more (such old) _ _ (outs such es) ∙ sym (sum_by-cons (λ y. cond (such y) 1 0) old (handed_out es)))
  outs such (effect.Front old v ∷ es) = sum_by-cons (λ e. cond (hands_out_such such e) 1 0) (effect.Front old v) es ∙ (one_more (such old) _ _ (outs such es) ∙ sym (sum_by-cons (λ y. cond (such y) 1 0) old (handed_out es)))
  outs such (effect.Arrive ∷ es) = sum_by-cons (λ e. cond (hands_out_such such e) 1 0) effect.Arrive es ∙ none_more (count_by (hands_out_such such) es) (count_by such (handed_out es)) (outs such es)
  outs such (effect.Close ∷ es) = sum_by-cons (λ e. cond (hands_out_such such e) 1 0) effect.Close es ∙ none_more (count_by (hands_out_such such) es) (count_by such (handed_out es)) (outs such es)
  outs such (effect.SelfClose ∷ es) = sum_by-cons (λ e. cond (hands_out_such such e) 1 0) effect.SelfClose es ∙ none_more (count_by (hands_out_such such) es) (count_by such (handed_out es)) (outs such es)

  -- as many such items as a whole party handed in, it handed out, or they are left
  pub all_kept : (cap : Option ℕ) (v : View T) (such : T → Bool) → IsView cap v → IsWhole v → (after cap v.seen).coming ≡ None
      → done_by (hands_in_such such) v ≡ done_by (hands_out_such such) v + count_by such (after cap v.seen).items
  all_kept cap v such is whole none =
      let law = (keeps_all cap v.seen is.legal).0 in
      let items : with_coming (after cap v.seen).items (after cap v.seen).coming ≡ (after cap v.seen).items = ap (with_coming (after cap v.seen).items) none in
      let lists : handed_in v.seen ≡ handed_out v.seen ++ (after cap v.seen).items = law ∙ ap (λ (l : List T). handed_out v.seen ++ l) items in
      let sums : count_by such (handed_in v.seen) ≡ count_by such (handed_out v.seen) + count_by such (after cap v.seen).items =
      ap (count_by such) lists ∙ sum_by-append (λ y. cond (such y) 1 0) (handed_out v.seen) (after cap v.seen).items in
      let came = done_by_whole (hands_in_such such) cap v is whole ∙ ins such v.seen in
      let went = done_by_whole (hands_out_such such) cap v is whole ∙ outs such v.seen in
      came ∙ (sums ∙ ap (λ k. k + count_by such (after cap v.seen).items) (sym went))

-- as often as a whole party handed a number in, it handed it out, or it is left
pub all_there : (cap : Option ℕ) (v : View ℕ) (x : ℕ) → IsView cap v → IsWhole v → (after cap v.seen).coming ≡ None
    → done_by (hands_in x) v ≡ done_by (hands_out x) v + count_by (λ y. y == x) (after cap v.seen).items
all_there cap v x = all_kept cap v (λ y. y == x)
