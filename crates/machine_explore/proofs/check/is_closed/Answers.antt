use Rattle.std.proofs.Common.{◌≡◌, ◌≤◌, ◌<◌, ◌∙◌, ap, arith, length, subst, slice_index_or}
use Rattle.std.{proofs.lemmas.List.take_all, proofs.lemmas.List.Elements.All-more, specs.Prelude.Contains, specs.List.All}
use Rattle.machine_explore.specs.{Positions.Standing, Tables.IsInside}
use Rattle.machine_explore.proofs.check.is_closed.Goals as goal

pub loop-index-preserved : goal.loop-index-preserved
loop-index-preserved g c =
    let calls = c.args.program.now.parties.items in
    let table = c.args.table.now.positions.items in
    let s = c.position-item.result in
    let is : IsInside c.args.kind c.args.refuses calls table s = record {
      kind = c.fits.ensures.kind c.if-not-fits.false;
      parties = c.fits.ensures.parties c.if-not-fits.false;
      calls_are = c.fits.ensures.calls c.if-not-fits.false;
      stays = c.in_ok-stays.ensures c.if-not-branch-2.false;
    } in
    let read : s ≡ slice_index_or table c.loop-index.index s = c.position-item.is ∙ ap (λ l. slice_index_or l c.loop-index.index s) c.deref-position-items.ensures.value in
    let inside : c.loop-index.index < length table = let far = c.loop-index-test.true in let size = ap length c.deref-position-items.ensures.value in omega (arith, far, size) in
    let P : Standing → Type 0 = λ x. IsInside c.args.kind c.args.refuses calls table x in
    All-more P table c.loop-index.index s inside c.loop-index.invariant (subst P read is)

pub returns : goal.returns
returns g c =
    λ yes.
    let calls = c.args.program.now.parties.items in
    let table = c.args.table.now.positions.items in
    let starts = c.in_ok-has_start.ensures c.if-not-branch.false in
    let within : Contains table starts.0 = subst (λ l. Contains l starts.0) c.deref.ensures.value starts.2 in
    let all : length table ≤ c.loop-index.index = let over = c.loop-index-test.false in let size = ap length c.deref-position-items.ensures.value in omega (arith, over, size) in
    let inside = subst (λ l. All (IsInside c.args.kind c.args.refuses calls table) l) (take_all c.loop-index.index table all) c.loop-index.invariant in
    record { start = starts.0; starts = starts.1; within = within; inside = inside }
