use denote.{RattleType.RattleType, Param.Send.IsSend, Param.Send.Frees}
use Rattle.std.specs.declared.alloc.Allocator as Allocator
use Rattle.mem_blocks.{specs.contracts.hub.Hub.the_row, proofs.Sent.hub_sent}

pub send : (S A : RattleType) (g : Allocator.Ghosts A.Denot) → IsSend S → IsSend A → Frees g g.dealloc_token → IsSend (the_row S A g)
send S A g s _ f = record { owned = λ h vs. ((λ vss. (tt, ((λ uss. (tt, tt)), tt))), hub_sent S s (g.dealloc_token h.heap) (f.frees h.heap) h.at); leaving = λ k x vs. tt }
