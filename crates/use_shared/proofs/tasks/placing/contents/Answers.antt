use Rattle.std.proofs.Common.{[], ◌∷◌, ◌++◌, length, map, Some, ap, sym, ◌∙◌, append_assoc, arith}
use Rattle.std.{proofs.lemmas.List.length-map, proofs.lemmas.List.map-append, specs.Vec.Iter.into_iter_items}
use Rattle.use_shared.proofs.Places.{number_below, all_came, none_missing}
use Rattle.use_shared.proofs.tasks.placing.contents.Goals as goal

pub loop-place-init : goal.loop-place-init
loop-place-init g c = (tt, tt, c.into_iter-place-iterator.ensures.into_iter_gives.0, ap (map Some) c.requires.empty, c.requires.room)

pub push_reserved-requires : goal.push_reserved-requires
push_reserved-requires g c =
    let before = c.loop-place.invariant in
    let came = c.loop-place.yielded in
    let outputs = c.loop-place.outputs in
    let all = ap (λ l. came ++ l) (sym c.in-Some.ensures.steps.0) ∙ before.2 in
    let count = outputs.ok.0 ∙ (sym (length-map outputs.items Some) ∙ ap length before.3) in
    let below = number_below came (into_iter_items c.next.new.self) c.args.places.items c.in-Some.place outputs.len all count in
    let room = before.4 in
    omega (arith, below, room)

pub loop-place-preserved : goal.loop-place-preserved
loop-place-preserved g c =
    let before = c.loop-place.invariant in
    let came = c.loop-place.yielded in
    let outputs = c.loop-place.outputs.items in
    let output = c.in-Some-place.output in
    let room = before.4 in (
      tt,
      tt,
      append_assoc came (c.in-Some.place ∷ []) (into_iter_items c.next.new.self) ∙ (ap (λ l. came ++ l) (sym c.in-Some.ensures.steps.0) ∙ before.2),
      ap (map Some) c.push_reserved.ensures.items ∙ (map-append Some outputs (output ∷ []) ∙ (ap (λ l. l ++ Some output ∷ []) before.3 ∙ ap (λ p. came ++ p ∷ []) (sym c.in-Some-place.is))),
      omega (arith, room, c.push_reserved.ensures.capacity),
    )

pub unreachable-requires : goal.unreachable-requires
unreachable-requires g c =
    let came = c.loop-place.yielded in
    let rest = into_iter_items c.next.new.self in
    let all = ap (λ p. came ++ p ∷ rest) (sym c.in-None-place.is) ∙ (ap (λ l. came ++ l) (sym c.in-Some.ensures.steps.0) ∙ c.loop-place.invariant.2) in
    none_missing came rest c.args.places.items all c.requires.full

pub returns : goal.returns
returns g c =
    let before = c.loop-place.invariant in
    let it = c.loop-place.place-iterator in
    before.3 ∙ all_came c.loop-place.yielded (into_iter_items it) c.args.places.items it.rest.len before.2 it.rest.ok.0 c.in-None.ensures.steps.0
