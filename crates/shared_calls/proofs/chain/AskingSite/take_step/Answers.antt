use Rattle.shared_calls.proofs.chain.AskingSite.take_step.Goals as goal

pub take_step-requires-clause-can : goal.take_step-requires-clause-can
take_step-requires-clause-can g c = c.requires.may

pub returns : goal.returns
returns g c = c.take_step.ensures
