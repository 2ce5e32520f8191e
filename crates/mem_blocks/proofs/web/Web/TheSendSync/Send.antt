use denote.{RattleType.RattleType, Param.Send.IsSend, Param.Send.Frees}
use Rattle.std.specs.declared.alloc.Allocator as Allocator
use Rattle.mem_blocks.{specs.declared.web.WebRule.Ghosts, specs.contracts.web.Web.the_row, proofs.Sent.owns_sent}

pub send : (S V K P A : RattleType) (g : Ghosts P.Denot S.Denot V.Denot K.Denot) (ga : Allocator.Ghosts A.Denot) → IsSend S → IsSend A → Frees ga ga.dealloc_token → IsSend (the_row S V K P A g ga)
send S V K P A g ga s _ f = record {
  owned = λ w vs. ((λ vss. (tt, ((λ uss. (tt, tt)), tt))), owns_sent S s (ga.dealloc_token w.heap) (f.frees w.heap) V.coded.code w.id (g.holds w.key));
  leaving = λ k x vs. tt;
}
