-- What a web, a seat, a chain and a loose block own.
-- The blocks of a web are lent for the web's own lifetime. The web keeps the token of that lifetime, and whoever has a `&` to the web sees that it goes on.
-- What is lent lies in an invariant: each block that joined and did not leave, with its slots at home, the rule, and one part in four of each view. The seat has the other three.
use Rattle.std.specs.Prelude.{◌≡◌, ℕ, ◌+◌, ◌*◌, ◌^◌, ◌<◌, ◌≤◌, Bool, true, false, List, [], ◌∷◌, length, Option, Some, None}
use Rattle.std.specs.Sync.RawAtomic.Pointer.{cell}
use base.{Fraction.full_share, Stored.Gv, Share.three_quarters}
use base.Fml.{Lft, Fml, ftrue, fsep, fex, fwand, froom, fbor, flent, flft, fshr_bor, finv}
use mir.Syntax.{Ty, w64, ty_ptr, ty_int, ty_array, ty_struct, tcons, tnil}
use mir.Raw.{raw}
use prog.Memory.{size, up, align}
use denote.{RattleType.RattleType, Memory.mem, Memory.lone, Memory.part_at, RawPtr.Ptr, RawPtr.block_ptr, RawPtr.block_of, RawPtr.count_of, RawPtr.InBlock}
use Rattle.atomic_table.specs.Seated.{fact, row, seen, roster}
use Rattle.mem_blocks.specs.{Web.Content, Web.Home, Web.Hand, Web.Block, Web.State, Web.Sitter, declared.sizes.TheConstants.SLOTS, declared.sizes.TheConstants.END_WORDS}

-- The name of the views, and the web's lifetime.
abbrev pub WebId : Type 0
WebId = ℕ × ℕ

abbrev pub age : WebId → Lft
age z = z.1 ∷ []

-- The link and the n words that a block or an end begins with.
abbrev pub node_ty : ℕ → Ty
node_ty n = ty_struct [] (tcons ty_ptr (tcons (ty_array (ty_int w64) n) tnil))

-- The room of a link and of a row of n words, at the offset o.
abbrev pub node_rooms : ℕ → ℕ → ℕ → Fml
node_rooms n b o = fsep (froom ty_ptr b (o + 0)) (fsep (froom (ty_array (ty_int w64) n) b (o + 8)) ftrue)

-- Two nodes side by side, the tail end and the head end of a queue.
abbrev pub hub_ty : Ty
hub_ty = ty_struct [] (tcons (node_ty END_WORDS) (tcons (node_ty END_WORDS) tnil))

-- How many bytes the two ends take.
abbrev pub hub_size : ℕ
hub_size = size hub_ty

-- Where the head end lies, if the tail end lies at p.
abbrev pub head_of : Ptr → Ptr
head_of p = block_ptr (block_of p) (count_of p + (8 + END_WORDS * 8))

abbrev pub hub_rooms : ℕ → ℕ → Fml
hub_rooms b o = fsep (node_rooms END_WORDS b o) (fsep (node_rooms END_WORDS b (o + (8 + END_WORDS * 8))) ftrue)

-- The right to make one room of the parts of both ends, and to free it.
abbrev pub hub_rim : (Ty → Ptr → Fml) → Ptr → Fml
hub_rim token p = fsep (fwand (hub_rooms (block_of p) (count_of p)) (froom (raw hub_ty) (block_of p) (count_of p))) (token (raw hub_ty) p)

-- How many words a block has: an end, which has no slots, has fewer.
abbrev pub words_of : {S : Type 0} → List (Home S) → ℕ
words_of [] = END_WORDS
words_of (h ∷ hs) = SLOTS

module _ (R : RattleType) where
  abbrev pub block_ty : Ty
  block_ty = ty_struct [] (tcons (node_ty SLOTS) (tcons (ty_array (lone R.mir) SLOTS) tnil))

  abbrev pub Small : Type 0
  Small = (mem R).size < 2 ^ 31

  -- Where the slots of a block at the offset o begin.
  abbrev pub slots_at : ℕ → ℕ
  slots_at o = o + up (align (ty_array (lone R.mir) SLOTS)) (8 + SLOTS * 8)

  -- What a slot owns: room for a value, or a value.
  abbrev pub content_owns : Content R.Denot → ℕ → ℕ → Fml
  content_owns None b e = froom (raw (lone R.mir)) b e
  content_owns (Some y) b e = part_at R full_share y b e

  abbrev pub slot_owns : Home R.Denot → ℕ → ℕ → Fml
  slot_owns None b e = ftrue
  slot_owns (Some c) b e = content_owns c b e

  abbrev pub slots_own : List (Home R.Denot) → ℕ → ℕ → Fml
  slots_own [] b e = ftrue
  slots_own (h ∷ hs) b e = fsep (slot_owns h b e) (slots_own hs b (e + (mem R).size))

  -- The room of the parts of a block at the offset o.
  abbrev pub rooms : ℕ → ℕ → Fml
  rooms b o = fsep (node_rooms SLOTS b o) (fsep (froom (ty_array (raw (lone R.mir)) SLOTS) b (slots_at o)) ftrue)

  abbrev pub Sized : Block R.Denot → Type 0
  Sized x = InBlock x.at × Small × (length x.words ≡ words_of x.homes) × (length x.homes ≤ SLOTS)

  abbrev pub hand_owns : Option (Hand R.Denot) → Fml
  hand_owns None = ftrue
  hand_owns (Some h) = fsep (fact (InBlock h.0 × Small × (h.1 < SLOTS))) (content_owns h.2 (block_of h.0) (h.1 * (mem R).size + slots_at (count_of h.0)))

  module _ (token : Ty → Ptr → Fml) where
    -- The right to make one room of the parts of a block, and to free it.
    abbrev pub rim : Ptr → Fml
    rim p = fsep (fwand (rooms (block_of p) (count_of p)) (froom (raw block_ty) (block_of p) (count_of p))) (token (raw block_ty) p)

    -- A block without slots is an end of the hub, whose rim the hub keeps.
    abbrev pub edge : List (Home R.Denot) → Ptr → Fml
    edge [] p = ftrue
    edge (h ∷ hs) p = rim p

    -- All that a block owns.
    abbrev pub block_owns : Block R.Denot → Fml
    block_owns x = fsep (fact (Sized x)) (fsep (cell (block_of x.at) (count_of x.at + 0) x.next)
        (fsep (row (block_of x.at) (count_of x.at + 8) x.words) (fsep (slots_own x.homes (block_of x.at) (slots_at (count_of x.at))) (edge x.homes x.at))))

    abbrev pub if_alive : Bool → Block R.Denot → Fml
    if_alive true x = block_owns x
    if_alive false x = ftrue

    abbrev pub laid_owns : Block R.Denot → Fml
    laid_owns x = if_alive x.alive x

    abbrev pub chain_owns : List (Block R.Denot) → Fml
    chain_owns [] = ftrue
    chain_owns (x ∷ xs) = fsep (laid_owns x) (chain_owns xs)

    abbrev pub spare_owns : Option (Block R.Denot) → Fml
    spare_owns None = ftrue
    spare_owns (Some x) = laid_owns x

    module _ {V : Type 0} (c : V → Gv) (z : WebId) where
      -- What a seat owns: three quarters of its view, the slot in its hand, and the block that it carries.
      abbrev pub seat_owns : ℕ → Sitter R.Denot V → Fml
      seat_owns id m = fsep (seen c z.0 id three_quarters m.view) (fsep (hand_owns m.hand) (spare_owns m.spare))

      module _ (holds : State R.Denot V → Type 0) where
        abbrev pub state_owns : State R.Denot V → Fml
        state_owns s = fsep (chain_owns s.blocks) (fsep (roster c z.0 0 s.views) (fact (holds s)))

        abbrev pub inside_owns : Fml
        inside_owns = fex (State R.Denot V) state_owns

        abbrev pub known_to_all : Fml
        known_to_all = finv (fbor (age z) inside_owns)

abbrev pub lasts : WebId → Lft → Fml
lasts z κ = fshr_bor κ (λ q. flft (age z) q)

-- What a seat at rest owns: three quarters of its view, while it is asleep.
abbrev pub rested_owns : {V : Type 0} → (V → Gv) → WebId → ℕ → Bool → V → Fml
rested_owns c z id true v = seen c z.0 id three_quarters v
rested_owns c z id false v = ftrue

-- It keeps the rule in sight as an argument, where `search` can match it.
unfoldable pub seal : (X : Type 1) → X → (X → Fml) → Fml
seal X x F = F x

module _ (R : RattleType) (token : Ty → Ptr → Fml) {V : Type 0} (c : V → Gv) (z : WebId) (holds : State R.Denot V → Type 0) where
  abbrev pub web_owns : Fml
  web_owns = seal (State R.Denot V → Type 0) holds (λ h. fsep (flft (age z) full_share) (fsep (known_to_all R token c z h) (flent (age z) (inside_owns R token c z h))))

  abbrev pub web_shares : Lft → Fml
  web_shares κ = seal (State R.Denot V → Type 0) holds (λ h. fsep (lasts z κ) (known_to_all R token c z h))
