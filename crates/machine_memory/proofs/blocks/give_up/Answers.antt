use Rattle.std.proofs.Common.{◌≡◌, None, is_some, arith}
use Rattle.std.proofs.lemmas.Grind.{common_steps}
use Rattle.machine_memory.specs.Blocks.{block_of}
use Rattle.machine_memory.proofs.Presence.{taken-present}
use Rattle.machine_memory.proofs.blocks.give_up.Goals as goal

pub returns-in-Some-clause-count : goal.returns-in-Some-clause-count
returns-in-Some-clause-count g c =
    let there : c.is_some.result ≡ is_some (block_of c.args.blocks.now.items c.in-Some.block) = grind (arith, common_steps) in
    let none : c.take.new.self ≡ None = grind (arith, common_steps) in
    rw (none, there) (taken-present c.args.blocks.now.items c.in-Some.block)
