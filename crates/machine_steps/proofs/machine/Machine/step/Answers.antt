use Rattle.std.proofs.{Common.true, Common.arith, Common.rules, lemmas.Grind.common_steps}
use Rattle.machine_steps.proofs.machine.Machine.step.Goals as goal

pub touch-carried-requires-clause-can : goal.touch-carried-requires-clause-can
touch-carried-requires-clause-can g c =
    let can = (c.requires.can true).touches in grind (arith, common_steps)

pub perform-answer-requires-clause-can : goal.perform-answer-requires-clause-can
perform-answer-requires-clause-can g c =
    let can = (c.requires.can true).operates in grind (arith, common_steps)

pub returns-clause-world : goal.returns-clause-world
returns-clause-world g c = search rules

pub returns-clause-told : goal.returns-clause-told
returns-clause-told g c = search rules
