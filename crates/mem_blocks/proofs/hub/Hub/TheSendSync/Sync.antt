-- The right to free both ends is nothing that a reference to it can use.
use denote.RattleType.{RattleType}
use denote.Param.Send.{IsSend, IsSync, Frees, part_keyless}
use Rattle.std.specs.declared.alloc.Allocator as Allocator
use Rattle.mem_blocks.{specs.contracts.hub.Hub.the_row, proofs.hub.Hub.TheSendSync.Send.send}

pub sync : (S A : RattleType) (g : Allocator.Ghosts A.Denot) → IsSend S → IsSend A → Frees g g.dealloc_token → IsSync (the_row S A g)
sync S A g s t f = record { shared = λ w b o ν q. part_keyless (the_row S A g) (send S A g s t f) q w b o }
