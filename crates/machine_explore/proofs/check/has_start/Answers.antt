use Rattle.machine_explore.proofs.check.has_start.Goals as goal

pub returns-in-Some : goal.returns-in-Some
returns-in-Some g c = λ yes. (c.in-Some.start, rw c.in-Some.is at c.in_ok-start.ensures, c.has_at.ensures yes)
