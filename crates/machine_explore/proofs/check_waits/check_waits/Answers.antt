use Rattle.std.{proofs.Common.map, proofs.Common.subst, specs.List.All}
use Rattle.machine_explore.{specs.Waiting.HasNoOtherWait, specs.Waiting.wait_key, specs.Waiting.wait_of, specs.WaitTables.HasWaitsAt, proofs.NoOther.answered, proofs.Waited.no_other_wait}
use Rattle.machine_explore.proofs.check_waits.check_waits.Goals as goal

pub returns : goal.returns
returns g c =
    let k = c.args.kind in
    let calls = c.args.program.now.parties.items in
    let before = c.args.program.now.before in
    let table = c.args.table.now.positions.items in
    let waits = map wait_of c.args.waits.now in
    let closed = c.in_ok-is_closed.ensures c.if-not-branch.false in
    answered (All (HasWaitsAt calls (map wait_key waits)) c.deref.result.now) (HasNoOtherWait k c.args.refuses before calls waits) c.have_waits.result
    (λ all. no_other_wait k c.args.refuses before calls table waits c.requires closed (subst (λ l. All (HasWaitsAt calls (map wait_key waits)) l) c.deref.ensures.value all)) c.have_waits.ensures
