use Rattle.std.proofs.Common.{◌∙◌, ◌<◌, ◌≤◌, ◌++◌, ◌∷◌, [], List, ap, arith, false, length, subst, sym, take}
use Rattle.std.{specs.Prelude.slice_index_or, proofs.lemmas.List.take_all, proofs.lemmas.List.take_more}
use Rattle.machine_explore.{specs.Traces.IsUnderWay, specs.Traces.IsWayOf, specs.Traces.Seen, specs.declared.schedule.Move.Move, proofs.Showing.under_way-seen}
use Rattle.machine_explore.proofs.trace.go.Goals as goal

pub loop-step-init : goal.loop-step-init
loop-step-init g c = (rw c.in-Some.is at c.in_ok-way.ensures) c.args.refuses

pub loop-step-preserved : goal.loop-step-preserved
loop-step-preserved g c =
    let k = c.args.kind in
    let calls = c.args.program.now.parties.items in
    let way = c.loop-step.invariant in
    let w = way.start.world in
    let i = c.loop-step.step-index in
    let none : Move = record { party = 0; granted = false } in
    let m : Move = slice_index_or c.args.schedule.now i none in
    let inside : i < length c.args.schedule.now = c.loop-step-test.true in
    let later = c.go_on.new.self in
    let more = c.in_ok-go_on.ensures.more c.if-not-branch.false in
    let done = take i c.args.schedule.now in
    let next = under_way-seen k c.args.refuses calls w done c.loop-step.way.entries.items c.loop-step.way.position later.position m more.one way.on more.may more.is in
    let P : List Move → List Seen → Type 0 = λ l xs. IsUnderWay k c.args.refuses calls w l xs later.position in
    record {
      start = way.start;
      starts = way.starts;
      opens = ap (λ v. v.items) c.go_on.ensures.opening ∙ way.opens;
      on = subst (λ l. P l later.entries.items) (sym (take_more c.args.schedule.now i none inside)) (subst (λ xs. P (done ++ m ∷ []) xs) (sym more.seen_is) next);
    }

pub returns : goal.returns
returns g c =
    let all : length c.args.schedule.now ≤ c.loop-step.step-index = let over = c.loop-step-test.false in omega (arith, over) in
    let P : List Move → Type 0 = λ l. IsWayOf c.args.kind c.args.refuses c.args.program.now.before c.args.program.now.parties.items l c.loop-step.way.opening.items c.loop-step.way.entries.items c.loop-step.way.position in
    subst P (take_all c.loop-step.step-index c.args.schedule.now all) c.loop-step.invariant
