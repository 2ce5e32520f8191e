use Rattle.std.proofs.Common.{List, ℕ, subst, sym}
use Rattle.machine_steps.specs.Left.{left_of}
use Rattle.machine_explore.{specs.Positions.Outcome, specs.Traces.IsTraceOf, proofs.Showing.shows}
use Rattle.machine_explore.proofs.trace.follow.Goals as goal

pub returns : goal.returns
returns g c =
    let k = c.args.kind in
    let calls = c.args.program.now.parties.items in
    let before = c.args.program.now.before in
    let schedule = c.args.schedule.now in
    let way = c.in-Some.way in
    let h = rw c.in-Some.is at c.in_ok-way.ensures in
    let whole = shows k c.args.refuses before calls schedule way.entries.items h.start way.position h.starts h.on (c.has_begun_all.ensures c.if-not-has_begun_all.false) (c.is_final.ensures.0 c.if-not-is_final.false) in
    let P : List ℕ → Outcome ℕ → Type 0 = λ l o. IsTraceOf k c.args.refuses before calls schedule (record { opening = l; seen = way.entries.items; outcome = o }) in
    subst (λ l. P l c.in_ok-outcome.outcome) (sym h.opens) (subst (λ o. P (left_of k h.start.world) o) (sym c.in_ok-outcome.ensures) whole)
