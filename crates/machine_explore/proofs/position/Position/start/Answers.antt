use Rattle.std.proofs.Common.{◌≡◌, ◌∙◌, [], ap, length, subst, sym}
use Rattle.machine_steps.specs.{Left.opening_world, Machine.world_of}
use Rattle.machine_explore.{specs.Positions.no_progress, specs.Starts.IsPrepared, proofs.Starting.prepared-first}
use Rattle.std.specs.Prelude.{replicate}
use Rattle.machine_explore.proofs.position.Position.start.Goals as goal

pub make_all-requires-clause-comes : goal.make_all-requires-clause-comes
make_all-requires-clause-comes g c = (c.args.kind, c.len-count.result, [], [], c.in_ok-run.ensures.opens)

pub make_all-requires-clause-rests : goal.make_all-requires-clause-rests
make_all-requires-clause-rests g c =
    let opens = c.in_ok-run.ensures.opens in
    let w = world_of c.in_ok-run.run'.machine in
    let first : IsPrepared c.args.kind (opening_world c.args.kind c.len-count.result) [] w = prepared-first c.args.kind c.len-count.result w opens.comes.0 in
    subst (λ k. IsPrepared k w [] w) (sym opens.kind_is) (subst (λ v. IsPrepared c.args.kind v [] w) (sym opens.comes.0) first)

pub returns : goal.returns
returns g c =
    let count : c.len-count.result ≡ length c.args.program.now.parties.items = c.len-count.ensures ∙ c.args.program.now.parties.ok.0 in
    let opens = c.in_ok-run.ensures.opens in
    let k = c.args.kind in
    let later = world_of c.make_all.new.run.machine in
    let made = c.in_ok-make_all.ensures.made c.if-not-branch.false in
    let from = opens.comes.0 ∙ ap (λ n. opening_world k n) count in
    record {
      small = opens.small;
      kind = c.make_all.ensures.kind ∙ opens.kind_is;
      prepared = subst (λ w. IsPrepared k w c.args.program.now.before later) from (subst (λ l. IsPrepared k (world_of c.in_ok-run.run'.machine) l later) c.as_slice.ensures (subst (λ x. IsPrepared x (world_of c.in_ok-run.run'.machine) c.as_slice.result.now later) opens.kind_is made));
      none_begun = c.in_ok-parties.ensures ∙ ap (λ n. replicate n no_progress) count;
    }
