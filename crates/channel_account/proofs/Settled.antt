-- What all ends of a channel have sent and received, where it is ended.
use Rattle.std.proofs.Common.{◌≡◌, ℕ, ◌+◌, Bool, cond, None, List, [], ◌∷◌, ◌++◌, refl, ap, sym, ◌∙◌, arith}
use Rattle.std.{specs.List.count_by, proofs.lemmas.List.Sums.sum_by-cons, proofs.lemmas.List.Sums.sum_by-append}
use mathlib.Core.Option.{some, none}
use lib.ListN.{get_elem?}
use Rattle.queue_laws.specs.{Common.Vocabulary.Effect, History.Histories.handed_in, History.Histories.handed_out}
use Rattle.queue_steps.specs.{Effect.after, Legal.IsSoundOwned, Sequential.Owned, Parties.IsView}
use Rattle.law_parties.specs.Doings.{passes, done_by, hands_in_such, hands_out_such}
use Rattle.law_parties.proofs.{Drained.is_drained, Whole.all_kept, Whole.ins, Whole.outs, Whole.one_more}
use Rattle.concurrent_queue.specs.Shared.{PartyView, Finishes}
use Rattle.channel_account.specs.{Own.found_before, Own.at_places, Own.own, Told.told, Told.SameItems, Told.SawEnd}

module _ {T : Type 0} where
  found_counted : (test : Effect T → Bool) (o : mathlib.Core.Option.Option (Effect T)) (es : List (Effect T)) → cond (passes test o) 1 0 + count_by test es ≡ count_by test (found_before o es)
  found_counted test none es = omega arith
  found_counted test (some e) es = sym (sum_by-cons (λ f. cond (test f) 1 0) e es)

  -- what is counted at some places is counted in the effects there
  counted : (test : Effect T → Bool) (t : List (Effect T)) (ps : List ℕ) → count_by (λ p. passes test (get_elem? t p)) ps ≡ count_by test (at_places t ps)
  counted test t [] = refl
  counted test t (p ∷ ps) =
      sum_by-cons (λ q. cond (passes test (get_elem? t q)) 1 0) p ps
      ∙ (one_more (passes test (get_elem? t p)) _ _ (counted test t ps) ∙ found_counted test (get_elem? t p) (at_places t ps))

  -- what the only party of a queue that has ended has sent was received, or is left
  pub settled : (p : PartyView T) (left : Owned T) → IsView p.queue.cap p.view → Finishes p left → IsSoundOwned left → SameItems (told p).sent ((told p).came ++ left.queue.items)
  settled p left is ended sound such =
      let calm : (after p.queue.cap p.view.seen).coming ≡ None = sym ended.2.coming ∙ sound.0.none_coming in
      let kept = all_kept p.queue.cap p.view such is ended.1 calm in
      let in_mine : done_by (hands_in_such such) p.view ≡ count_by such (handed_in (own p.view)) = counted (hands_in_such such) p.view.seen p.view.mine ∙ ins such (own p.view) in
      let out_mine : done_by (hands_out_such such) p.view ≡ count_by such (handed_out (own p.view)) = counted (hands_out_such such) p.view.seen p.view.mine ∙ outs such (own p.view) in
      let items : count_by such left.queue.items ≡ count_by such (after p.queue.cap p.view.seen).items = ap (count_by such) ended.2.items in
      let both = sum_by-append (λ y. cond (such y) 1 0) (handed_out (own p.view)) left.queue.items in
      sym in_mine ∙ omega (arith, kept, out_mine, items, both)

  -- and none is left where the channel was seen closed and empty
  pub none_left : (p : PartyView T) (left : Owned T) → IsView p.queue.cap p.view → Finishes p left → SawEnd (told p) → left.queue.items ≡ []
  none_left p left is ended drained = ended.2.items ∙ (is_drained p is.legal drained).0
