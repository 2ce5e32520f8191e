-- What a `&` to a chain shows: how it is made of a borrow, how it is read, and where it may go. Assumes `Logic`.
use Rattle.std.proofs.Common.{◌≡◌, ℕ, zero, suc, ◌+◌, ◌*◌, ◌<◌, Bool, true, false, true≢false, List, [], ◌∷◌, sym, refl, subst, arith, suc-mul, zero-mul}
use Rattle.std.specs.{Prelude.Some, Prelude.None, Sync.RawAtomic.Pointer.cell}
use mathlib.Core.Option as maybe
use lib.ListN.{get_elem?}
use seplogic.Ra.Ura.{Ura}
use mir.Syntax.{Ty, ty_ptr}
use base.{Logic.SProp, Logic.ent, Logic.sep, Logic.guard, Fraction.full_share, Fml.Lft, Fml.Share, Fml.Fml, Fml.ftrue, Fml.fbor, Fml.fshr_bor}
use ghost.Rules.{Halves}
use types.{Logic.Logic, Logic.sem, Logic.lfts, Tokens.bor_fracture}
use types.Kit.{‵, raw, ◌$◌, ◌∵◌, !, qed, by, use1, drop, move, keep, rewrite, fsplit, fsplit3, fpick, check, updating, now, done}
use denote.{RattleType.RattleType, RattleType.RowLaws, Memory.mem, Memory.shared_of, Shares.Shares, Opens.Cuts-Halves, Laid.Spread.cell_Cuts, Param.Send.IsSync, Param.Send.Common}
use denote.RawPtr.{Ptr, block_ptr, block_of, count_of, ptr_val}
use denote.Sharing.{ShrLaws, nothing, said, one, beside}
use denote.SharingLaws.{nothing_shr_laws, said_shr_laws, one_shr_laws, beside_shr_laws}
use denote.Struct.Lending.{lent_at, lent_at_shr_laws, Lends, Lends-lies, Lends-said, Lends-nothing, Lends-both}
use Rattle.atomic_table.specs.Seated.{fact, row}
use Rattle.mem_blocks.specs.{Web.Content, Web.Home, Web.Block, Web.block, Web.Lives, Web.Rests, Lent.link_part, Lent.content_lent, Lent.slot_lent, Lent.slots_lent, Lent.block_lent, Lent.lent_if_alive, Lent.chain_lent, declared.sizes.TheConstants.SLOTS}
use Rattle.mem_blocks.specs.Laid.{Small, Sized, slots_at, content_owns, slot_owns, slots_own, edge, block_owns, if_alive, laid_owns, chain_owns}
use Rattle.mem_blocks.proofs.Blocks.{found_there}

module _ (R : RattleType) (L : RowLaws R) where
  content_laws : (c : Content R.Denot) (b e : ℕ) → ShrLaws (content_lent R c b e)
  content_laws None b e = nothing_shr_laws
  content_laws (Some y) b e = lent_at_shr_laws R L (block_ptr b e) y

  slot_laws : (h : Home R.Denot) (b e : ℕ) → ShrLaws (slot_lent R h b e)
  slot_laws None b e = nothing_shr_laws
  slot_laws (Some c) b e = content_laws c b e

  slots_laws : (hs : List (Home R.Denot)) (b e : ℕ) → ShrLaws (slots_lent R hs b e)
  slots_laws [] b e = nothing_shr_laws
  slots_laws (h ∷ hs) b e = beside_shr_laws (slot_lent R h b e) (slots_lent R hs b _) (slot_laws h b e) (slots_laws hs b _)

  block_laws : (x : Block R.Denot) → ShrLaws (block_lent R x)
  block_laws x =
      let b = block_of x.at in let e = slots_at R (count_of x.at) in let link = link_part b (count_of x.at + 0) x.next in
      let slots = beside (slots_lent R x.homes b e) nothing in let rest = beside nothing slots in let all = beside (one link) rest in
      beside_shr_laws (said (fact (Sized R x))) all (said_shr_laws (fact (Sized R x)) (λ _. tt)) (beside_shr_laws (one link) rest (one_shr_laws link)
      (beside_shr_laws nothing slots nothing_shr_laws (beside_shr_laws (slots_lent R x.homes b e) nothing (slots_laws x.homes b e) nothing_shr_laws)))

  alive_laws : (y : Bool) (x : Block R.Denot) → ShrLaws (lent_if_alive R y x)
  alive_laws true x = block_laws x
  alive_laws false x = nothing_shr_laws

  pub chain_laws : (bs : List (Block R.Denot)) → ShrLaws (chain_lent R bs)
  chain_laws [] = nothing_shr_laws
  chain_laws (x ∷ xs) = beside_shr_laws (lent_if_alive R x.alive x) (chain_lent R xs) (alive_laws x.alive x) (chain_laws xs)

module _ {M : Type 1} {𝓤 : Ura M} (𝓛 : Logic 𝓤) (R : RattleType) (token : Ty → Ptr → Fml) (l : Lft) (s : Shares 𝓛 R l) where
  open 𝓛 use {H}

  lends_link : (b o : ℕ) (p : Ptr) → Lends 𝓛 (cell b o p) (one (link_part b o p)) l
  lends_link b o p ν ts inc sp = let Φ : Share → Fml = link_part b o p in
      qed 𝓛 (‵ (fbor ν (Φ full_share)) ∷ raw (lfts 𝓛 ts) ∷ []) {P = H.⇛ (sep 𝓤 (sem 𝓛 (fshr_bor ν Φ)) (lfts 𝓛 ts))} (updating ! $ bor_fracture ! tt Φ full_share $ now ! $ done !)

  lends_content : (c : Content R.Denot) (b e : ℕ) → Lends 𝓛 (content_owns R c b e) (content_lent R c b e) l
  lends_content None b e = Lends-nothing 𝓛 (content_owns R None b e) l
  lends_content (Some y) b e = Lends-lies 𝓛 R l (block_ptr b e) y (s y)

  lends_slot : (h : Home R.Denot) (b e : ℕ) → Lends 𝓛 (slot_owns R h b e) (slot_lent R h b e) l
  lends_slot None b e = Lends-nothing 𝓛 ftrue l
  lends_slot (Some c) b e = lends_content c b e

  lends_slots : (hs : List (Home R.Denot)) (b e : ℕ) → Lends 𝓛 (slots_own R hs b e) (slots_lent R hs b e) l
  lends_slots [] b e = Lends-nothing 𝓛 ftrue l
  lends_slots (h ∷ hs) b e = Lends-both 𝓛 (slot_owns R h b e) (slots_own R hs b _) (slot_lent R h b e) (slots_lent R hs b _) l (lends_slot h b e) (lends_slots hs b _)

  lends_block : (x : Block R.Denot) → Lends 𝓛 (block_owns R token x) (block_lent R x) l
  lends_block x =
      let b = block_of x.at in let o = count_of x.at in let e = slots_at R o in
      let slots = slots_own R x.homes b e in let freed = edge R token x.homes x.at in let words = row b (o + 8) x.words in
      let link = one (link_part b (o + 0) x.next) in let seen = beside (slots_lent R x.homes b e) nothing in let Sizes = fact (Sized R x) in
      Lends-both 𝓛 Sizes _ (said Sizes) (beside link (beside nothing seen)) l (Lends-said 𝓛 Sizes (λ _. tt) l)
      (Lends-both 𝓛 (cell b (o + 0) x.next) _ link (beside nothing seen) l (lends_link b (o + 0) x.next)
      (Lends-both 𝓛 words _ nothing seen l (Lends-nothing 𝓛 words l)
      (Lends-both 𝓛 slots freed (slots_lent R x.homes b e) nothing l (lends_slots x.homes b e) (Lends-nothing 𝓛 freed l))))

  lends_alive : (y : Bool) (x : Block R.Denot) → Lends 𝓛 (if_alive R token y x) (lent_if_alive R y x) l
  lends_alive true x = lends_block x
  lends_alive false x = Lends-nothing 𝓛 ftrue l

  pub lends_chain : (bs : List (Block R.Denot)) → Lends 𝓛 (chain_owns R token bs) (chain_lent R bs) l
  lends_chain [] = Lends-nothing 𝓛 ftrue l
  lends_chain (x ∷ xs) = Lends-both 𝓛 (laid_owns R token x) (chain_owns R token xs) (lent_if_alive R x.alive x) (chain_lent R xs) l (lends_alive x.alive x) (lends_chain xs)

-- Each share of a link is cut in two, and joined.
pub link_halves : {M : Type 1} {𝓤 : Ura M} (𝓛 : Logic 𝓤) (b o : ℕ) (p : Ptr) → Halves 𝓤 𝓛.H 𝓛.A (link_part b o p)
link_halves 𝓛 b o p = Cuts-Halves 𝓛 (link_part b o p) (cell_Cuts 𝓛 ty_ptr b o (ptr_val p))

module _ {M : Type 1} {𝓤 : Ura M} (𝓛 : Logic 𝓤) (R : RattleType) (κ : Lft) where
  abbrev Pr : Type 2
  Pr = SProp 𝓤

  abbrev ◌⊢◌ : Pr → Pr → Type 1
  P ⊢ Q = ent 𝓤 P Q

  abbrev ⟦◌⟧ : Fml → Pr
  ⟦ P ⟧ = sem 𝓛 P

  infix 26 ◌⊢◌
  abbrev S : Type 0
  S = R.Denot

  abbrev s : ℕ
  s = (mem R).size

  block_seen : (bs : List (Block S)) (k : ℕ) → (block bs k).alive ≡ true → ⟦ chain_lent R bs κ ⟧ ⊢ ⟦ block_lent R (block bs k) κ ⟧
  block_seen [] k e = absurd (true≢false (sym e))
  block_seen (x ∷ xs) zero e = qed 𝓛 (‵ (lent_if_alive R x.alive x κ) ∷ ‵ (chain_lent R xs κ) ∷ []) ∵ rewrite ! 0 (λ (y : Bool). ‵ (lent_if_alive R y x κ)) e refl $ keep ! (0 ∷ []) $ done !
  block_seen (x ∷ xs) (suc k) e = qed 𝓛 (‵ (lent_if_alive R x.alive x κ) ∷ ‵ (chain_lent R xs κ) ∷ []) ∵ drop ! $ by ! (block_seen xs k e)

  value_seen : (hs : List (Home S)) (j : ℕ) (x : S) (b o e : ℕ) → e ≡ j * s + o → get_elem? hs j ≡ maybe.some (Some (Some x)) → ⟦ slots_lent R hs b o κ ⟧ ⊢ ⟦ shared_of R x b e κ ⟧
  value_seen [] j x b o e is at = absurd (maybe.some-ne-none (Some (Some x)) (sym at))
  value_seen (h ∷ hs) zero x b o e is at = let z = zero-mul s in let same : o ≡ e = omega arith in
      qed 𝓛 (‵ (slot_lent R h b o κ) ∷ ‵ (slots_lent R hs b (o + s) κ) ∷ []) ∵ rewrite ! 0 (λ (g : Home S). ‵ (slot_lent R g b o κ)) (maybe.some-injective h (Some (Some x)) at) refl $
      rewrite ! 0 (λ (n : ℕ). ‵ (lent_at R (block_ptr b n) x κ)) same refl $ fsplit ! $ keep ! (1 ∷ []) $ done !
  value_seen (h ∷ hs) (suc j) x b o e is at = let z = suc-mul j s in
      qed 𝓛 (‵ (slot_lent R h b o κ) ∷ ‵ (slots_lent R hs b (o + s) κ) ∷ []) ∵ drop ! $ by ! (value_seen hs j x b (o + s) e (omega arith) at)

  -- the link of a block
  pub link_seen : (bs : List (Block S)) (k : ℕ) (p : Ptr) → Lives bs k p → ⟦ chain_lent R bs κ ⟧ ⊢ ⟦ one (link_part (block_of p) (count_of p + 0) (block bs k).next) κ ⟧
  link_seen bs k p lies = subst (λ (u : Ptr). ⟦ chain_lent R bs κ ⟧ ⊢ ⟦ one (link_part (block_of u) (count_of u + 0) (block bs k).next) κ ⟧) lies.1 (
      let x : Block S = block bs k in qed 𝓛 (‵ (chain_lent R bs κ) ∷ []) ∵ use1 𝓛 (‵ (block_lent R x κ)) (block_seen bs k lies.0) $ fsplit3 ! $ keep ! (1 ∷ []) $ done !)

  -- the value in a full slot
  pub slot_seen : (bs : List (Block S)) (k : ℕ) (p : Ptr) (j : ℕ) (x : S) → Lives bs k p → Rests bs k j (Some x)
      → ⟦ chain_lent R bs κ ⟧ ⊢ guard 𝓤 (Small R × (j < SLOTS)) ⟦ shared_of R x (block_of p) (j * s + slots_at R (count_of p)) κ ⟧
  slot_seen bs k p j x lies at = subst (λ (u : Ptr). ⟦ chain_lent R bs κ ⟧ ⊢ guard 𝓤 (Small R × (j < SLOTS)) ⟦ shared_of R x (block_of u) (j * s + slots_at R (count_of u)) κ ⟧) lies.1 (
      let a : Block S = block bs k in qed 𝓛 (‵ (chain_lent R bs κ) ∷ []) ∵ use1 𝓛 (‵ (block_lent R a κ)) (block_seen bs k lies.0) $ fsplit3 ! $ fpick ! (λ so. drop ! $
      let near = found_there a.homes j (Some (Some x)) (Some None) at in check ! (so.1, (let few = so.3 in let here = near.0 in omega arith)) $
      move ! (1 ∷ []) $ fsplit3 ! $ move ! (1 ∷ []) $ use1 𝓛 (‵ (shared_of R x (block_of a.at) (j * s + slots_at R (count_of a.at)) κ)) (value_seen a.homes j x (block_of a.at) (slots_at R (count_of a.at)) _ refl at) $ keep ! (0 ∷ []) $ done !))

-- It may be seen from another thread where each value may.
module _ (R : RattleType) (y : IsSync R) where
  content_common : (c : Content R.Denot) (b e : ℕ) → Common (content_lent R c b e)
  content_common None b e κ = tt
  content_common (Some x) b e κ = (tt, y.shared x b e κ)

  slot_common : (h : Home R.Denot) (b e : ℕ) → Common (slot_lent R h b e)
  slot_common None b e κ = tt
  slot_common (Some c) b e κ = content_common c b e κ

  slots_common : (hs : List (Home R.Denot)) (b e : ℕ) → Common (slots_lent R hs b e)
  slots_common [] b e κ = tt
  slots_common (h ∷ hs) b e κ = (slot_common h b e κ, slots_common hs b _ κ)

  alive_common : (a : Bool) (x : Block R.Denot) → Common (lent_if_alive R a x)
  alive_common true x κ = ((λ _. tt), ((λ _. tt), (tt, (slots_common x.homes _ _ κ, tt))))
  alive_common false x κ = tt

  pub chain_common : (bs : List (Block R.Denot)) → Common (chain_lent R bs)
  chain_common [] κ = tt
  chain_common (x ∷ xs) κ = (alive_common x.alive x κ, chain_common xs κ)
