use denote.{RattleType.RattleType, Param.Send.IsSend, Param.Send.Frees}
use Rattle.std.specs.declared.alloc.Allocator as Allocator
use Rattle.mem_blocks.{specs.contracts.web.Seat.the_row, proofs.Sent.seat_sent}

pub send : (S V A : RattleType) (g : Allocator.Ghosts A.Denot) → IsSend S → IsSend A → Frees g g.dealloc_token → IsSend (the_row S V A g)
send S V A g s _ f = record { owned = λ r vs. ((λ vss. (tt, ((λ uss. (tt, tt)), tt))), seat_sent S s (g.dealloc_token r.heap) (f.frees r.heap) V.coded.code r.web r.id r.sitter); leaving = λ k x vs. tt }
