use Rattle.std.proofs.Common.{rules, tests}
use Rattle.shared_chain.proofs.web.ChainWeb.link.Goals as goal

pub returns-in-HeadBlock : goal.returns-in-HeadBlock
returns-in-HeadBlock g c = search (rules, tests)
