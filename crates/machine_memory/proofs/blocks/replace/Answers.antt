use Rattle.std.proofs.Common.{◌≡◌, Some, arith}
use Rattle.std.proofs.lemmas.Grind.{common_steps}
use Rattle.machine_memory.specs.Blocks.{block_of}
use Rattle.machine_memory.proofs.Presence.{written-present}
use Rattle.machine_memory.proofs.blocks.replace.Goals as goal

pub returns-clause-count : goal.returns-clause-count
returns-clause-count g c =
    let there : block_of c.args.blocks.now.items c.args.block ≡ Some c.in-Some.block = grind (arith, common_steps) in
    written-present c.args.blocks.now.items c.args.block c.in-Some.block c.replace.new.self there
