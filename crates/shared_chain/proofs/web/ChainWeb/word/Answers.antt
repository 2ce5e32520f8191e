use Rattle.std.proofs.Common.{rules, tests}
use Rattle.shared_chain.proofs.web.ChainWeb.word.Goals as goal

pub returns-in-Head : goal.returns-in-Head
returns-in-Head g c = search (rules, tests)
