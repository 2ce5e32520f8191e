use Rattle.std.proofs.Common.{[], ◌∷◌, ◌++◌, map, ap, subst, sym, ◌∙◌, append_assoc}
use Rattle.std.proofs.lemmas.List.{map-append, Elements.All-nil, Elements.All-push}
use Rattle.std.specs.{List.All, Vec.Iter.into_iter_items}
use Rattle.app_explore.{specs.Listed.HasText, specs.Listed.item_of, proofs.Ordered.all_came}
use Rattle.app_explore.proofs.listed.with_texts.Goals as goal

pub loop-item-init : goal.loop-item-init
loop-item-init g c =
    let none = c.new-all.ensures.items in
    (tt, tt, c.into_iter-item-iterator.ensures.into_iter_gives.0, ap (map item_of) none, subst (λ l. All (HasText g.X.Told.text_of) l) (sym none) (All-nil (HasText g.X.Told.text_of)))

pub loop-item-preserved : goal.loop-item-preserved
loop-item-preserved g c =
    let before = c.loop-item.invariant in
    let came = c.loop-item.yielded in
    let item = c.in-Some.item in
    let all = c.loop-item.all.items in
    let added = c.in_ok-push.ensures.items in
    let text = c.in_ok-write_to.ensures ∙ ap (λ l. l ++ g.X.Told.text_of item) c.new-text.ensures.bytes in (
      tt,
      tt,
      append_assoc came (item ∷ []) (into_iter_items c.next.new.self) ∙ (ap (λ l. came ++ l) (sym c.in-Some.ensures.steps.0) ∙ before.2),
      ap (map item_of) added ∙ (map-append item_of all (record { text = c.write_to.new.text; item = item } ∷ []) ∙ ap (λ l. l ++ item ∷ []) before.3),
      subst (λ l. All (HasText g.X.Told.text_of) l) (sym added) (All-push (HasText g.X.Told.text_of) all (record { text = c.write_to.new.text; item = item }) before.4 text),
    )

pub returns-clause-same : goal.returns-clause-same
returns-clause-same g c =
    let before = c.loop-item.invariant in
    let it = c.loop-item.item-iterator in
    before.3 ∙ all_came c.loop-item.yielded (into_iter_items it) c.args.items.items it.rest.len before.2 it.rest.ok.0 c.in-None.ensures.steps.0

pub returns-clause-texts : goal.returns-clause-texts
returns-clause-texts g c = c.loop-item.invariant.4
