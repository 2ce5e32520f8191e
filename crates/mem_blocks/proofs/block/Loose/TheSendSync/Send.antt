use denote.{RattleType.RattleType, Param.Send.IsSend, Param.Send.Frees}
use Rattle.std.specs.declared.alloc.Allocator as Allocator
use Rattle.mem_blocks.{specs.Web.alive_at, specs.contracts.block.Loose.the_row, proofs.Sent.lying_sent}

pub send : (S A : RattleType) (g : Allocator.Ghosts A.Denot) → IsSend S → IsSend A → Frees g g.dealloc_token → IsSend (the_row S A g)
send S A g s _ f = record { owned = λ l vs. ((λ vss. (tt, ((λ uss. (tt, tt)), tt))), lying_sent S s (g.dealloc_token l.heap) (f.frees l.heap) (alive_at l.at l.next l.words l.homes)); leaving = λ k x vs. tt }
