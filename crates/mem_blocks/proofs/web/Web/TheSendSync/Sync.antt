use denote.{RattleType.RattleType, Struct.Struct.Struct, Struct.Owning.shape}
use denote.Param.Send.{IsSend, IsSync, Frees, sendable}
use Rattle.std.specs.declared.alloc.Allocator as Allocator
use Rattle.mem_blocks.{specs.declared.web.WebRule.Ghosts, specs.contracts.web.Web.the_row, specs.contracts.web.Web.the_type, proofs.Sent.shares_sent}

pub sync : (S V K P A : RattleType) (g : Ghosts P.Denot S.Denot V.Denot K.Denot) (ga : Allocator.Ghosts A.Denot) → IsSend S → IsSend A → Frees ga ga.dealloc_token → IsSync (the_row S V K P A g ga)
sync S V K P A g ga s _ f = let fields : IsSync (Struct (shape (the_type S V K P A g ga))) = search sendable depth 20 in
    record { shared = λ w b o ν. (fields.shared (tt, tt) b o ν, shares_sent S s (ga.dealloc_token w.heap) (f.frees w.heap) V.coded.code w.id (g.holds w.key) ν) }
