use Rattle.std.{proofs.Common.map, proofs.Common.subst, proofs.lemmas.List.Sorted.All-permutation, proofs.lemmas.List.Sorted.IsPermutation-map, specs.Prelude.IsPermutation}
use Rattle.app_explore.specs.{Listed.HasText, Listed.bytes_of, Listed.item_of, Outcomes.AreInOrder}
use Rattle.app_explore.proofs.listed.sorted_by_text.Goals as goal

pub returns : goal.returns
returns g c =
    let made = c.in_ok-all.ensures in
    let all = c.in_ok-all.all.items in
    let sorted = c.sort_by.new.self.items in
    let moved = c.in_ok-sort_by.ensures.permutation in
    record {
      same = subst (λ l. IsPermutation l (map item_of sorted)) made.same (IsPermutation-map item_of all sorted moved);
      texts = All-permutation (HasText g.X.Told.text_of) all sorted moved made.texts;
      in_order = subst (λ l. AreInOrder (map bytes_of l)) c.deref.ensures.value (c.are_in_order.ensures c.if-not-are_in_order.false);
    }
