use Rattle.std.proofs.Common.{subst}
use Rattle.mem_blocks.specs.Web.{Lives}
use Rattle.shared_chain.proofs.web.ChainWeb.peek_head.Goals as goal

pub peek-requires-clause-stays : goal.peek-requires-clause-stays
peek-requires-clause-stays g c = let w = c.args.self.now in λ s so. (1, subst (Lives s.blocks 1) w.ends.1 so.codes.head.lives)
