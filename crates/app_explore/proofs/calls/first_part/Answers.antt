use Rattle.app_explore.proofs.Parts.{part_ends, part_whole}
use Rattle.app_explore.proofs.calls.first_part.Goals as goal

pub returns-in-Some : goal.returns-in-Some
returns-in-Some c = part_ends c.args.text.now c.in-Some.end c.in-Some.ensures

pub returns-in-None : goal.returns-in-None
returns-in-None c = part_whole c.args.text.now c.in-None.ensures
