use Rattle.std.proofs.Common.{[], ◌∷◌, ◌++◌, length, slice_get, Some, None, ap, sym, ◌∙◌, append_assoc, append-nil, arith}
use Rattle.std.proofs.lemmas.{List.length-set, List.length-replicate, Option.slice_get_within}
use Rattle.use_shared.{specs.declared.tasks.numbered.Finished.Finished, proofs.Places.placed_none, proofs.Places.placed_more, proofs.Places.placed_all}
use Rattle.use_shared.proofs.tasks.placing.place.Goals as goal

pub loop-done-preserved : goal.loop-done-preserved
loop-done-preserved g c =
    let before = c.loop-done.invariant in
    let done = c.in-Some.done in
    let places = c.loop-done.places.items in
    let came = c.loop-done.yielded ++ done ∷ [] in
    let parts = c.into_parts-number.ensures in
    let number = c.into_parts-number.result.0 in
    let output = c.into_parts-number.result.1 in (
      tt,
      tt,
      append_assoc c.loop-done.yielded (done ∷ []) _ ∙ (ap (λ l. c.loop-done.yielded ++ l) (sym c.in-Some.ensures.steps) ∙ before.2),
      ap length c.put_at.ensures ∙ (length-set places number (Some output) ∙ before.3),
      rw (c.put_at.ensures, parts.0) (placed_more (λ d. d.number) g.K.Batch.outcomes places c.loop-done.yielded done output before.3 (ap (slice_get g.K.Batch.outcomes) (sym parts.0) ∙ parts.1) before.4),
    )

pub returns : goal.returns
returns g c =
    let before = c.loop-done.invariant in
    let none = c.in-None.ensures.steps.0 in
    let all = sym (append-nil c.loop-done.yielded) ∙ (ap (λ l. c.loop-done.yielded ++ l) (sym none) ∙ before.2) in
    placed_all (λ d. d.number) g.K.Batch.outcomes c.loop-done.places.items c.loop-done.yielded before.3 (rw all c.requires.each) before.4

pub loop-done-init : goal.loop-done-init
loop-done-init g c =
    let places = c.requires.places in (
      tt,
      tt,
      c.into_iter-done-iterator.ensures.into_iter_gives.0,
      ap length places ∙ length-replicate (length g.K.Batch.outcomes) None,
      rw places (placed_none {D = Finished g.row.K.Denot g.row.T.Denot g.row.T-Output.Denot g.K.Batch g.T.Task} (λ d. d.number) g.K.Batch.outcomes),
    )

pub put_at-requires : goal.put_at-requires
put_at-requires g c =
    let it = c.into_parts-number in let within = slice_get_within g.K.Batch.outcomes it.result.0 it.result.1 it.ensures.1 in let len = c.loop-done.invariant.3 in omega (arith, within, len)
