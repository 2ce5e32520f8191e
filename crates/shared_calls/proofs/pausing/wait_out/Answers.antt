use Rattle.shared_calls.proofs.pausing.wait_out.Goals as goal

pub carry_through-requires-clause-kind : goal.carry_through-requires-clause-kind
carry_through-requires-clause-kind g c = rw c.apart.ensures c.requires.kind

pub carry_through-requires-clause-left : goal.carry_through-requires-clause-left
carry_through-requires-clause-left g c = rw c.apart.ensures c.requires.left

pub returns : goal.returns
returns g c = λ call first start. c.carry_through.ensures call first (rw c.apart.ensures start)
