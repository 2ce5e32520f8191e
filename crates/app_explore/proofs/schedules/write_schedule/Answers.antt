use Rattle.app_explore.proofs.Making.{lines_make}
use Rattle.app_explore.proofs.schedules.write_schedule.Goals as goal

pub returns-clause-made : goal.returns-clause-made
returns-clause-made g c = lines_make 0 c.args.moves.now

pub returns-in_err-write_before-clause-made : goal.returns-in_err-write_before-clause-made
returns-in_err-write_before-clause-made g c = lines_make 0 c.args.moves.now
