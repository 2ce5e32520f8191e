-- A `&` to a web holds only what can be had twice. Assumes `Logic`.
use denote.{RawPtr.RawPtr, RattleType.RattleType, Param.Laws.Laws, Param.Shared.copy_shared, Struct.Laws.field_copy, Struct.Lending.of_Lends}
use Rattle.std.specs.contracts.marker.PhantomData as phantom
use Rattle.std.specs.declared.alloc.Allocator as Allocator
use Rattle.mem_blocks.{specs.declared.web.WebRule.Ghosts, proofs.web.Web.TheLaw.Statement.statement, proofs.Shown.shown_laws, proofs.Shown.lends_shown}
use Rattle.mem_blocks.specs.contracts.web.Web as web

pub shares : (S V K P A : RattleType) (g : Ghosts P.Denot S.Denot V.Denot K.Denot) (ga : Allocator.Ghosts A.Denot) (LS : Laws S) (LV : Laws V) (LK : Laws K) (LP : Laws P) (LA : Laws A) → statement S V K P A g ga LS LV LK LP LA
shares S V K P A g ga LS LV LK LP LA =
    of_Lends (web.struct S V K P A g ga) (web.the_codes S.Denot V.Denot K.Denot P.Denot A.Denot S.coded V.coded K.coded P.coded A.coded (phantom.the_row RawPtr).coded) (web.the_heap S V K P A g ga) (web.the_lent S V K P A g ga)
    (λ w p. shown_laws S (ga.dealloc_token w.heap) V.coded w.id (g.holds w.key))
    (copy_shared (phantom.the_field RawPtr) (field_copy (phantom.the_type RawPtr) tt), tt)
    (λ M 𝓤 𝓛 w p. lends_shown S (ga.dealloc_token w.heap) V.coded w.id (g.holds w.key) 𝓛 (web.the_row S V K P A g ga).lives)
