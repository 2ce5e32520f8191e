use Rattle.std.proofs.Common.{rules, tests}
use Rattle.mem_blocks.proofs.web.Web.install.Goals as goal

pub returns : goal.returns
returns g c = search (rules, tests)
