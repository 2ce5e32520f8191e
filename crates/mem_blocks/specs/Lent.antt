-- What a `&` to a chain shows: the link of each block, and the values in its slots.
use Rattle.std.specs.Prelude.{ℕ, ◌+◌, Bool, true, false, List, [], ◌∷◌, Some, None}
use base.Fml.{Lft, Share, Fml, fat}
use mir.Syntax.{ty_ptr}
use denote.{RattleType.RattleType, Memory.mem, Struct.Lending.lent_at, Sharing.nothing, Sharing.said, Sharing.one, Sharing.beside, RawPtr.Ptr, RawPtr.block_ptr, RawPtr.block_of, RawPtr.count_of, RawPtr.ptr_val}
use Rattle.atomic_table.specs.Seated.{fact}
use Rattle.mem_blocks.specs.{Web.Content, Web.Home, Web.Block, Laid.Sized, Laid.slots_at}

-- Some share of a link.
abbrev pub link_part : ℕ → ℕ → Ptr → Share → Fml
link_part b o p q = fat q ty_ptr b o (ptr_val p)

module _ (R : RattleType) where
  abbrev pub content_lent : Content R.Denot → ℕ → ℕ → Lft → Fml
  content_lent None b e = nothing
  content_lent (Some y) b e = lent_at R (block_ptr b e) y

  abbrev pub slot_lent : Home R.Denot → ℕ → ℕ → Lft → Fml
  slot_lent None b e = nothing
  slot_lent (Some c) b e = content_lent c b e

  abbrev pub slots_lent : List (Home R.Denot) → ℕ → ℕ → Lft → Fml
  slots_lent [] b e = nothing
  slots_lent (h ∷ hs) b e = beside (slot_lent h b e) (slots_lent hs b (e + (mem R).size))

  -- Its words, and the right to free it, are not shown.
  abbrev pub block_lent : Block R.Denot → Lft → Fml
  block_lent x = beside (said (fact (Sized R x))) (beside (one (link_part (block_of x.at) (count_of x.at + 0) x.next))
      (beside nothing (beside (slots_lent x.homes (block_of x.at) (slots_at R (count_of x.at))) nothing)))

  abbrev pub lent_if_alive : Bool → Block R.Denot → Lft → Fml
  lent_if_alive true x = block_lent x
  lent_if_alive false x = nothing

  abbrev pub chain_lent : List (Block R.Denot) → Lft → Fml
  chain_lent [] = nothing
  chain_lent (x ∷ xs) = beside (lent_if_alive x.alive x) (chain_lent xs)
