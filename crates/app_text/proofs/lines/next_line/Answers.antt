use Rattle.std.proofs.Common.{rules, ◌<◌, length}
use Rattle.app_text.proofs.FirstLine.{cut_at, uncut}
use Rattle.app_text.proofs.lines.next_line.Goals as goal

pub returns-in-Some : goal.returns-in-Some
returns-in-Some c = cut_at c.args.text.now c.in-Some.end c.in-Some.ensures

pub returns-in-None : goal.returns-in-None
returns-in-None c = let some : 0 < length c.args.text.now = search rules in (uncut c.args.text.now c.in-None.ensures some, some)
