use Rattle.machine_explore.proofs.check_waits.is_alone.Goals as goal

pub returns-then-not-is_as_alone : goal.returns-then-not-is_as_alone
returns-then-not-is_as_alone g c = λ no half. c.is_as_alone.ensures c.if-not-is_as_alone.true (half c.loop-party.party c.loop-party-test.true)
