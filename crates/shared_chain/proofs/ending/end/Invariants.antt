use Rattle.shared_chain.specs.Ending.{gone_first}
use Rattle.shared_chain.proofs.ending.end.Given as goal

-- the ends, and the blocks that left the web
abbrev pub ghost-forget : goal.ghost-forget
ghost-forget g a = gone_first a.self.now.blocks
