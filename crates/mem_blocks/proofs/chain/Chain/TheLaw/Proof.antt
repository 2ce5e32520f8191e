-- A `&` to a chain holds the links and the values in its slots. Assumes `Logic`.
use mathlib.Core.List.{[], ◌∷◌, ◌++◌}
use base.Fml.{Incl-trans}
use contract.BorrowLft.{meet_⊑_left}
use denote.{RattleType.RattleType, Shares.Shares-less, Param.Laws.Laws, Param.Shared.copy_shared, Struct.Laws.field_copy, Struct.Tuple.Tuple, Struct.Lending.of_Lends}
use Rattle.std.specs.contracts.marker.PhantomData as phantom
use Rattle.std.specs.declared.alloc.Allocator as Allocator
use Rattle.mem_blocks.specs.contracts.chain.Chain as chain
use Rattle.mem_blocks.proofs.{chain.Chain.TheLaw.Statement.statement, Lent.chain_laws, Lent.lends_chain}

pub shares : (S A : RattleType) (ga : Allocator.Ghosts A.Denot) (LS : Laws S) (LA : Laws A) → statement S A ga LS LA
shares S A ga LS LA =
    of_Lends (chain.struct S A ga) (chain.the_codes S.Denot A.Denot S.coded A.coded (phantom.the_row (Tuple (S ∷ A ∷ []))).coded) (chain.the_heap S A ga) (chain.the_lent S A ga)
    (λ c p. chain_laws S LS.shr_laws c.blocks)
    (copy_shared (phantom.the_field (Tuple (S ∷ A ∷ []))) (field_copy (phantom.the_type (Tuple (S ∷ A ∷ []))) tt), tt)
    (λ M 𝓤 𝓛 c p. let l = (chain.the_row S A ga).lives in
    lends_chain 𝓛 S (ga.dealloc_token c.heap) l (Shares-less 𝓛 S S.lives l (Incl-trans (meet_⊑_left (S.lives ++ (A.lives ++ [])) _) (meet_⊑_left S.lives (A.lives ++ []))) (LS.shares 𝓛)) c.blocks)
