-- The steps that give a name another use leave blocks that stand for the chain after them: a block is granted, and becomes the chain's next one.
use Rattle.std.proofs.Common.{ℕ, ◌+◌, ◌<◌, ◌≤◌, ◌≡◌, ◌≢◌, ◌∙◌, inl, inr, Option, Some, None, List, [], ◌∷◌, ◌++◌, length, sym, ap, subst, arith, get_or}
use Rattle.std.proofs.{lemmas.List.get_or_append_left, lemmas.List.get_or_past, lemmas.List.length-append, Math.Seq.get_or-append_seam, lemmas.Bool.cases_lt}
use Rattle.queue_laws.specs.{Common.Puts.put, Chain.ChainTransitions.renamed, Chain.ChainCells.Unused, Chain.ChainCells.Spare, Chain.ChainCells.Chained, Chain.ChainCells.Chain}
use Rattle.queue_laws.proofs.{Common.Puts.put_ok, Common.Puts.put_other, Chain.ChainEnds.Ends, Chain.ChainEnds.ends_of, Chain.ChainSlots.SameBlock, Chain.ChainSlots.IsFresh}
use Rattle.machine_memory.specs.Blocks.{BlockState, fresh_block}
use Rattle.machine_replay.proofs.Chain.{Names.NameIs, Names.Codes, Names.name_kept, Names.name_renamed, Fresh.fresh_is}

-- U3, granted: the next number is the spare of the call
pub codes_granted : {A : Type 0} {c : Chain A} {e : Ends} {blocks : List (Option (BlockState A))} (who : ℕ) → Codes c e blocks → Codes (renamed c (length blocks) (Spare who)) e (blocks ++ Some fresh_block ∷ [])
codes_granted {A} {c = c} {blocks = blocks} who codes = record {
  ends = codes.ends;
  unused = λ f le. let more = length-append blocks (Some (fresh_block {T = A}) ∷ []) in put_other c.uses (length blocks) f (Spare who) (λ e. absurd (omega arith)) ∙ codes.unused f (omega arith);
  name = λ f. put_ok c.uses (length blocks) f (Spare who) (λ j u. NameIs (renamed c (length blocks) (Spare who)) j u (get_or (blocks ++ Some fresh_block ∷ []) j None))
      (get_or-append_seam blocks (Some fresh_block) [] None)
      (λ ne. elim (cases_lt f (length blocks)) [
        | inl lt ↦ subst (λ y. NameIs (renamed c (length blocks) (Spare who)) f (c.uses f) y) (sym (get_or_append_left blocks (Some fresh_block ∷ []) None f lt)) (name_renamed c (length blocks) (Spare who) f (c.uses f) (get_or blocks f None) (codes.name f))
        | inr ge ↦ subst (λ u. NameIs (renamed c (length blocks) (Spare who)) f u (get_or (blocks ++ Some fresh_block ∷ []) f None)) (sym (codes.unused f ge)) (past f ne ge)
      ]);
}
  where
    past : (f : ℕ) → f ≢ length blocks → length blocks ≤ f → get_or (blocks ++ Some fresh_block ∷ []) f None ≡ None
    past f ne ge = get_or_past (blocks ++ Some fresh_block ∷ []) f None (let n = length-append blocks (Some (fresh_block {T = A}) ∷ []) in omega arith)

-- U4, U6: the spare f becomes the block number b, and each one before it is the same
pub codes_grown : {A : Type 0} {c s : Chain A} {e : Ends} {blocks : List (Option (BlockState A))} (who f b : ℕ) → c.uses f ≡ Spare who → s.uses ≡ put c.uses f (Chained b) → c.blocks ≡ b → s.blocks ≡ b + 1
    → IsFresh s b f → ((i : ℕ) → i < b → SameBlock c s i) → Codes c e blocks → {d : Ends} → d ≡ ends_of s → Codes s d blocks
codes_grown {c = c} {s = s} {blocks = blocks} who f b spare uses was now fresh same codes ends = record {
  ends = ends;
  unused = λ g le. ap (λ u. u g) uses ∙ (put_other c.uses f g (Chained b) (λ z. let y : Unused ≡ Spare who = sym (codes.unused g le) ∙ (ap c.uses z ∙ spare) in cc) ∙ codes.unused g le);
  name = λ g. subst (λ u. NameIs s g (u g) (get_or blocks g None)) (sym uses) (put_ok c.uses f g (Chained b) (λ j u. NameIs s j u (get_or blocks j None)) here
      (λ ne. name_kept c s g (c.uses g) (get_or blocks g None) (λ i named. (let lt = named.0 in omega (arith, was, now), same i (subst (λ n. i < n) was named.0))) (codes.name g)));
}
  where
    here : NameIs s f (Chained b) (get_or blocks f None)
    here =
        let laid : get_or blocks f None ≡ Some fresh_block = subst (λ u. NameIs c f u (get_or blocks f None)) spare (codes.name f) in
        subst (λ y. NameIs s f (Chained b) y) (sym laid) ((omega (arith, now), sym fresh.name), inr (fresh_is s b f fresh))
