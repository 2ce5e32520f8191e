use denote.{RattleType.RattleType, Param.Send.IsSend, Param.Send.Frees}
use Rattle.std.specs.declared.alloc.Allocator as Allocator
use Rattle.mem_blocks.{specs.contracts.chain.Chain.the_row, proofs.Sent.webbed_sent}

pub send : (S A : RattleType) (g : Allocator.Ghosts A.Denot) → IsSend S → IsSend A → Frees g g.dealloc_token → IsSend (the_row S A g)
send S A g s _ f = record { owned = λ c vs. ((λ vss. (tt, ((λ uss. (tt, tt)), tt))), webbed_sent S s (g.dealloc_token c.heap) (f.frees c.heap) c.blocks); leaving = λ k x vs. tt }
