-- What a web, a seat, a chain and a loose block own may go to another thread, where what a slot holds and the right to free a block may.
use Rattle.std.proofs.Common.{ℕ, suc, ◌+◌, Bool, true, false, List, [], ◌∷◌}
use Rattle.std.specs.Prelude.{Option, Some, None}
use mir.Syntax.{Ty}
use base.{Fraction.full_share, Stored.Gv, Shift.Keyless, Fml.Lft, Fml.Fml}
use denote.{RattleType.RattleType, RawPtr.Ptr, Param.Send.IsSend, Param.Send.part_keyless}
use types.Keyed.{entry_keyless, entries_keyless}
use Rattle.atomic_table.specs.Seated.{row, halved, roster}
use Rattle.mem_blocks.specs.Web.{Content, Home, Hand, Block, State, Sitter}
use Rattle.mem_blocks.specs.Laid.{WebId, content_owns, slot_owns, slots_own, edge, hub_rim, hand_owns, block_owns, if_alive, chain_owns, spare_owns, seat_owns, rested_owns, inside_owns, web_owns, web_shares}

words_sent : (b o : ℕ) (ns : List ℕ) → Keyless (row b o ns)
words_sent b o [] = tt
words_sent b o (n ∷ ns) = (tt, words_sent b (o + 8) ns)

views_sent : {V : Type 0} (c : V → Gv) (γ k : ℕ) (vs : List V) → Keyless (roster c γ k vs)
views_sent c γ k [] = λ v. entries_keyless halved γ k (λ _. (full_share, c v))
views_sent c γ k (v ∷ vs) = (entry_keyless halved γ k _, views_sent c γ (suc k) vs)

pub rested_sent : {V : Type 0} (c : V → Gv) (z : WebId) (id : ℕ) (asleep : Bool) (v : V) → Keyless (rested_owns c z id asleep v)
rested_sent c z id true v = entry_keyless halved z.0 id _
rested_sent c z id false v = tt

module _ (R : RattleType) (s : IsSend R) (token : Ty → Ptr → Fml) (frees : (τ : Ty) (p : Ptr) → Keyless (token τ p)) where
  kept_sent : (c : Content R.Denot) (b e : ℕ) → Keyless (content_owns R c b e)
  kept_sent None b e = tt
  kept_sent (Some y) b e = part_keyless R s full_share y b e

  home_sent : (h : Home R.Denot) (b e : ℕ) → Keyless (slot_owns R h b e)
  home_sent None b e = tt
  home_sent (Some c) b e = kept_sent c b e

  shelf_sent : (hs : List (Home R.Denot)) (b e : ℕ) → Keyless (slots_own R hs b e)
  shelf_sent [] b e = tt
  shelf_sent (h ∷ hs) b e = (home_sent h b e, shelf_sent hs b _)

  edge_sent : (hs : List (Home R.Denot)) (p : Ptr) → Keyless (edge R token hs p)
  edge_sent [] p = tt
  edge_sent (h ∷ hs) p = ((((tt, (tt, tt)), (tt, tt)), tt), frees _ p)

  pub hub_sent : (p : Ptr) → Keyless (hub_rim token p)
  hub_sent p = ((((tt, (tt, tt)), ((tt, (tt, tt)), tt)), tt), frees _ p)

  pub lying_sent : (x : Block R.Denot) → Keyless (block_owns R token x)
  lying_sent x = ((λ _. tt), (tt, (words_sent _ _ x.words, (shelf_sent x.homes _ _, edge_sent x.homes x.at))))

  alive_sent : (b : Bool) (x : Block R.Denot) → Keyless (if_alive R token b x)
  alive_sent true x = lying_sent x
  alive_sent false x = tt

  pub webbed_sent : (bs : List (Block R.Denot)) → Keyless (chain_owns R token bs)
  webbed_sent [] = tt
  webbed_sent (x ∷ xs) = (alive_sent x.alive x, webbed_sent xs)

  held_sent : (h : Option (Hand R.Denot)) → Keyless (hand_owns R h)
  held_sent None = tt
  held_sent (Some h) = ((λ _. tt), kept_sent h.2 _ _)

  spared_sent : (x : Option (Block R.Denot)) → Keyless (spare_owns R token x)
  spared_sent None = tt
  spared_sent (Some x) = alive_sent x.alive x

  module _ {V : Type 0} (c : V → Gv) (z : WebId) where
    pub seat_sent : (id : ℕ) (m : Sitter R.Denot V) → Keyless (seat_owns R token c z id m)
    seat_sent id m = (entry_keyless halved z.0 id _, (held_sent m.hand, spared_sent m.spare))

    module _ (holds : State R.Denot V → Type 0) where
      inner_sent : Keyless (inside_owns R token c z holds)
      inner_sent = λ t. (webbed_sent t.blocks, (views_sent c z.0 0 t.views, λ _. tt))

      pub owns_sent : Keyless (web_owns R token c z holds)
      unfolding Rattle.mem_blocks.specs.Laid.seal
      owns_sent = (tt, (inner_sent, inner_sent))

      pub shares_sent : (ν : Lft) → Keyless (web_shares R token c z holds ν)
      unfolding Rattle.mem_blocks.specs.Laid.seal
      shares_sent ν = ((λ _. tt), inner_sent)
