use Rattle.concurrent_queue.proofs.shared.pending.go_on_here_apart.Goals as goal

pub go_on_here-requires-clause-left : goal.go_on_here-requires-clause-left
go_on_here-requires-clause-left g c = rw c.apart.ensures c.requires.left

pub returns-in-Some : goal.returns-in-Some
returns-in-Some g c = λ v h. c.in-Some.ensures v (rw c.apart.ensures h)

pub returns-in-None : goal.returns-in-None
returns-in-None g c = λ v h. c.in-None.ensures v (rw c.apart.ensures h)
