-- What is left of a shared chain when it ends.
use Rattle.std.specs.Prelude.{◌≡◌, ℕ, ◌+◌, List, [], ◌∷◌, Option, Some, None, if◌then◌else◌}
use denote.RawPtr.{Ptr, null_ptr, InBlock}
use Rattle.mem_blocks.specs.{Web.Block, declared.block.BlockPtr.BlockPtr}

-- the link leads to this place, or there is none and the place is null
abbrev pub LeadsTo : {T : Type 0} → Option (BlockPtr T) → Ptr → Type 0
LeadsTo None p = p ≡ null_ptr
LeadsTo (Some l) p = l.ptr ≡ p

-- a link that is there leads into a block
abbrev pub IntoBlock : {T : Type 0} → Option (BlockPtr T) → Type 0
IntoBlock None = Unit {0}
IntoBlock (Some l) = InBlock l.ptr

-- how many blocks at the beginning left the web
abbrev pub gone_first : {T : Type 0} → List (Block T) → ℕ
gone_first [] = 0
gone_first (x ∷ xs) = if x.alive then 0 else gone_first xs + 1
