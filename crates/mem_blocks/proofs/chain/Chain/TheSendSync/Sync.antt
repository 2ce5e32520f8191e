use denote.{RattleType.RattleType, Struct.Struct.Struct, Struct.Owning.shape, Param.Send.IsSync, Param.Send.sendable}
use Rattle.std.specs.declared.alloc.Allocator as Allocator
use Rattle.mem_blocks.{specs.contracts.chain.Chain.the_row, specs.contracts.chain.Chain.the_type, proofs.Lent.chain_common}

pub sync : (S A : RattleType) (g : Allocator.Ghosts A.Denot) → IsSync S → IsSync (the_row S A g)
sync S A g y = let fields : IsSync (Struct (shape (the_type S A g))) = search sendable depth 20 in
    record { shared = λ c b o ν. (fields.shared (tt, tt) b o ν, chain_common S y c.blocks ν) }
