use Rattle.concurrent_queue.proofs.shared.trying.end_or_quit.Goals as goal

pub end_or_quit_at-requires-clause-left : goal.end_or_quit_at-requires-clause-left
end_or_quit_at-requires-clause-left g c = rw c.apart.ensures c.requires.left

pub returns : goal.returns
returns g c = λ k first is. rw c.retold.ensures (c.end_or_quit_at.ensures k first (rw c.apart.ensures is))
