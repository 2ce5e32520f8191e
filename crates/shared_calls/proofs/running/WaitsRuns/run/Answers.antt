use Rattle.shared_calls.proofs.running.WaitsRuns.run.Goals as goal

pub wait_out-requires-clause-left : goal.wait_out-requires-clause-left
wait_out-requires-clause-left g c = (_, _, c.in-Continue.ensures)

pub returns-in-Continue : goal.returns-in-Continue
returns-in-Continue g c = c.wait_out.ensures _ _ c.in-Continue.ensures
