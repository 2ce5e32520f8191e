-- What a `&` to a web shows: its invariant, and that its lifetime lasts. Assumes `Logic`.
use Rattle.std.proofs.Common.{[], ◌∷◌}
use seplogic.Ra.Ura.{Ura}
use mir.Syntax.{Ty}
use base.{Logic.sep, Logic.wand, Logic.apply∗, Logic.snd∗, Fraction.full_share, Stored.Coded, Fml.Lft, Fml.Share, Fml.Fml, Fml.fsep, Fml.fbor, Fml.flent, Fml.flft, Fml.fshr_bor}
use types.{Logic.Logic, Logic.sem, Logic.lfts, Tokens.bor_fracture}
use types.Kit.{‵, raw, ◌⊛◌, later, ◌$◌, !, qed, move, drop, split, fsplit, fjoin, use1, use2, updating, await, now, done}
use denote.{RattleType.RattleType, RawPtr.Ptr, SharingLaws.beside_shr_laws, SharingLaws.one_shr_laws, Struct.Lending.Lends, Struct.Lending.Lends-both, Sharing.ShrLaws, Sharing.one, Sharing.said}
use Rattle.mem_blocks.specs.{Web.State, Laid.WebId, Laid.age, Laid.inside_owns, Laid.known_to_all, Laid.web_owns, Laid.web_shares}

module _ (R : RattleType) (token : Ty → Ptr → Fml) {V : Type 0} (cv : Coded V) (z : WebId) (holds : State R.Denot V → Type 0) where
  abbrev Inside : Fml
  Inside = inside_owns R token cv.code z holds

  -- the invariant, which can be copied
  abbrev Invariant : Fml
  Invariant = known_to_all R token cv.code z holds

  abbrev Life : Share → Fml
  Life q = flft (age z) q

  -- the web's own right to have its blocks back
  abbrev ClaimBack : Fml
  ClaimBack = flent (age z) Inside

  pub shown_laws : ShrLaws (web_shares R token cv.code z holds)
  unfolding Rattle.mem_blocks.specs.Laid.seal
  shown_laws = beside_shr_laws (one Life) (said Invariant) (one_shr_laws Life) record {
    contraction = λ M 𝓤 𝓛 ν. 𝓛.invs.inv_dup (fbor (age z) Inside);
    mono = λ M 𝓤 𝓛 μ ν. snd∗ 𝓤 (sem 𝓛 (base.Before.before μ ν)) (sem 𝓛 Invariant);
  }

  module _ {M : Type 1} {𝓤 : Ura M} (𝓛 : Logic 𝓤) (l : Lft) where
    open 𝓛 use {H, A}

    lends_life : Lends 𝓛 (Life full_share) (one Life) l
    lends_life ν ts inc sp = qed 𝓛 (‵ (fbor ν (Life full_share)) ∷ raw (lfts 𝓛 ts) ∷ []) {P = H.⇛ (sep 𝓤 (sem 𝓛 (fshr_bor ν Life)) (lfts 𝓛 ts))} (updating ! $ bor_fracture ! tt Life full_share $ now ! $ done !)

    lends_known : Lends 𝓛 (fsep Invariant ClaimBack) (said Invariant) l
    lends_known ν ts inc sp = let Both : Fml = fsep Invariant ClaimBack in let Back = H.⇛ (sep 𝓤 (A.bor ν Both) (lfts 𝓛 ts)) in
        qed 𝓛 (‵ (fbor ν Both) ∷ raw (lfts 𝓛 ts) ∷ []) {P = H.⇛ (sep 𝓤 (sem 𝓛 Invariant) (lfts 𝓛 ts))} (
        updating ! $ use2 𝓛 (later (‵ Both ⊛ raw (wand 𝓤 (sem 𝓛 Both) Back))) (𝓛.more.bor_acc_by ν ts Both sp) $ await ! tt $ split ! $ fsplit ! $
        use1 𝓛 (‵ Invariant ⊛ ‵ Invariant) (𝓛.invs.inv_dup (fbor (age z) Inside)) $ split ! $ move ! (0 ∷ 2 ∷ []) $ fjoin ! $ move ! (0 ∷ 2 ∷ []) $
        use2 𝓛 (later (‵ (fbor ν Both) ⊛ raw (lfts 𝓛 ts))) (apply∗ 𝓤 (sem 𝓛 Both) Back) $ await ! tt $ split ! $ drop ! $ move ! (1 ∷ 0 ∷ []) $ now ! $ done !)

    pub lends_shown : Lends 𝓛 (web_owns R token cv.code z holds) (web_shares R token cv.code z holds) l
    unfolding Rattle.mem_blocks.specs.Laid.seal
    lends_shown = Lends-both 𝓛 (Life full_share) (fsep Invariant ClaimBack) (one Life) (said Invariant) l lends_life lends_known
