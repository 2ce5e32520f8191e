use Rattle.std.proofs.{Common.rules, Common.arith, lemmas.Grind.common_steps}
use Rattle.machine_memory.proofs.Presence.{granted-present, present-few}
use Rattle.machine_memory.proofs.shared_memory.SharedMemory.ask.Goals as goal

pub returns-in-Ok-clause-refused : goal.returns-in-Ok-clause-refused
returns-in-Ok-clause-refused g c = search rules

pub returns-in-Ok-clause-answer : goal.returns-in-Ok-clause-answer
returns-in-Ok-clause-answer g c = search rules

pub returns-in-Ok-clause-counted : goal.returns-in-Ok-clause-counted
returns-in-Ok-clause-counted g c =
    let more = granted-present c.args.self.now.blocks.items c.in-Ok.block in grind (arith, common_steps)

pub overflow_add-self : goal.overflow_add-self
overflow_add-self g c =
    let few = present-few c.args.self.now.blocks.items in omega (arith, few, c.requires.counted, c.requires.room, c.args.self.now.blocks.ok.0)
