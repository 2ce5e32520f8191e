-- A block that is there, and one that is given up with a reply.
use Rattle.std.proofs.Common.{ℕ, ◌<◌, ◌≡◌, ◌≢◌, ◌∙◌, inl, inr, Option, Some, None, List, length, refl, sym, ap, subst, arith, get_or, set, get_or-set_same, get_or-set_other}
use Rattle.std.proofs.lemmas.{List.get_or_past, List.length-set, Bool.Decides.eqb_tells, Bool.cases_lt}
use Rattle.machine_replay.specs.Vocabulary.{Next, BLOCK_SLOTS}
use Rattle.queue_laws.specs.Chain.{ChainFacts.IsNamed, ChainAfter.left_by, ChainTransitions.given_up, ChainTransitions.lost_of, ChainCells.GivenUp, ChainCells.Unused, ChainCells.Spare, ChainCells.Chained, ChainCells.Chain, ChainCells.ChainOk}
use Rattle.queue_laws.proofs.{Common.Puts.put_ok, Chain.ChainEnds.Ends, Chain.ChainRight.Gives}
use Rattle.machine_memory.specs.Blocks.{BlockState, fresh_block, without, places_in, place_count}
use Rattle.machine_steps.specs.Steps.{spare_in}
use Rattle.machine_replay.proofs.Chain.{Codes.BlockIs, Names.NameIs, Names.HeldIs, Names.Codes, Names.alive_of, Names.name_of, Names.Changed, Names.name_renamed, Blocks.there, Blocks.changed_set}

-- a spare that is given up
codes_given_spare : {A : Type 0} {c : Chain A} {e : Ends} {blocks after : List (Option (BlockState A))} (who f : ℕ) → c.uses f ≡ Spare who → Changed blocks after f None → Codes c e blocks → Codes (given_up c (Some f)) e after
codes_given_spare {c = c} {blocks = blocks} {after = after} who f spare changed codes = record {
  ends = codes.ends;
  unused = λ g le. put_ok c.uses f g (lost_of (c.uses f)) (λ j u. j ≡ g → u ≡ Unused) (λ e. let z : Unused ≡ Spare who = sym (codes.unused g (let n = changed.size in omega arith)) ∙ (ap c.uses (sym e) ∙ spare) in cc) (λ ne e. codes.unused g (let n = changed.size in omega arith)) refl;
  name = λ g. put_ok c.uses f g (lost_of (c.uses f)) (λ j u. NameIs (given_up c (Some f)) j u (get_or after j None))
      (subst (λ u. NameIs (given_up c (Some f)) f (lost_of u) (get_or after f None)) (sym spare) changed.here)
      (λ ne. subst (λ z. NameIs (given_up c (Some f)) g (c.uses g) z) (sym (changed.others g ne)) (name_renamed c f (lost_of (c.uses f)) g (c.uses g) (get_or blocks g None) (codes.name g)));
}

-- a passed block, which its walk has given up
pub codes_given_block : {A : Type 0} {c : Chain A} {e : Ends} {blocks : List (Option (BlockState A))} (b f : ℕ) → c.uses f ≡ Chained b → Codes c e blocks → Codes (given_up c (Some f)) e blocks
codes_given_block {c = c} {blocks = blocks} b f chained codes = record {
  ends = codes.ends;
  unused = λ g le. put_ok c.uses f g (lost_of (c.uses f)) (λ j u. c.uses j ≡ Unused → u ≡ Unused) (λ e. ap lost_of e) (λ ne e. e) (codes.unused g le);
  name = λ g. put_ok c.uses f g (lost_of (c.uses f)) (λ j u. NameIs (given_up c (Some f)) j u (get_or blocks j None))
      (subst (λ u. NameIs (given_up c (Some f)) f (lost_of u) (get_or blocks f None)) (sym chained) (subst (λ u. NameIs (given_up c (Some f)) f u (get_or blocks f None)) chained (kept f)))
      (λ ne. kept g);
}
  where
    kept : (g : ℕ) → NameIs (given_up c (Some f)) g (c.uses g) (get_or blocks g None)
    kept g = name_renamed c f (lost_of (c.uses f)) g (c.uses g) (get_or blocks g None) (codes.name g)

-- what stands under the name of the chain's block b
held_of : {A : Type 0} {c : Chain A} {e : Ends} {blocks : List (Option (BlockState A))} (b f : ℕ) → ChainOk c → IsNamed c b f → Codes c e blocks → HeldIs c b (get_or blocks f None)
held_of {c = c} {blocks = blocks} b f ok named codes = (name_of c b f (get_or blocks f None) (ap c.uses named.1 ∙ ok.name b named.0) (codes.name f)).1

-- a block that is not given up is there
pub block_at : {A : Type 0} {c : Chain A} {e : Ends} {blocks : List (Option (BlockState A))} (b f : ℕ) → ChainOk c → IsNamed c b f → c.walks b ≢ GivenUp → Codes c e blocks
    → (x : BlockState A) × (get_or blocks f None ≡ Some x) × BlockIs c b x.places x.next
block_at {c = c} {blocks = blocks} b f ok named on codes = alive_of c b (get_or blocks f None) on (held_of b f ok named codes)

-- a number that has no block has none once it is given up again
codes_reset : {A : Type 0} {c : Chain A} {e : Ends} {blocks : List (Option (BlockState A))} (f : ℕ) → get_or blocks f None ≡ None → Codes c e blocks → Codes c e (set blocks f None)
codes_reset {A} {c = c} {blocks = blocks} f none codes = record {
  ends = codes.ends;
  unused = λ g le. codes.unused g (let n = length-set blocks f None in omega arith);
  name = λ g. subst (λ y. NameIs c g (c.uses g) y) (sym (same g)) (codes.name g);
}
  where
    same : (g : ℕ) → get_or (set blocks f None) g None ≡ get_or blocks g None
    same g = elim (eqb_tells g f) [
      | inl t ↦ subst (λ h. get_or (set blocks f None) h None ≡ get_or blocks h None) (sym t.1) (elim (cases_lt f (length blocks)) [
        | inl lt ↦ get_or-set_same blocks f None None lt ∙ sym none
        | inr ge ↦ get_or_past (set blocks f None) f None (let n = length-set blocks f None in omega arith) ∙ sym none
      ])
      | inr t ↦ get_or-set_other blocks f g None None t.1
    ]

-- the block that a call gives up where it replies
pub codes_left : {A : Type 0} {c : Chain A} {e : Ends} {blocks : List (Option (BlockState A))} (who : ℕ) (n : Next ℕ) → ChainOk c → Gives c who n → Codes c e blocks
    → Codes (left_by c n) e (without (spare_in n) blocks)
codes_left who (Next.Step l t o) ok gives codes = codes
codes_left who (Next.Reply x None) ok gives codes = codes
codes_left {c = c} {blocks = blocks} who (Next.Reply x (Some f)) ok (inl spare) codes =
    let fresh : get_or blocks f None ≡ Some fresh_block = subst (λ u. NameIs c f u (get_or blocks f None)) spare (codes.name f) in
    codes_given_spare who f spare (changed_set blocks f None (there blocks f fresh_block fresh)) codes
codes_left {c = c} {blocks = blocks} who (Next.Reply x (Some f)) ok (inr (b, named, over)) codes =
    let none : get_or blocks f None ≡ None = elim (held_of b f ok named codes) [ inl h ↦ h.1 | inr h ↦ absurd (h.0 over) ] in
    codes_reset f none (codes_given_block b f (ap c.uses named.1 ∙ ok.name b named.0) codes)

-- a block that is there has all its places
pub has_place : {A : Type 0} {c : Chain A} (bs : List (Option (BlockState A))) (b f i : ℕ) (x : BlockState A) → get_or bs f None ≡ Some x → BlockIs c b x.places x.next → i < BLOCK_SLOTS → i < place_count bs f
has_place bs b f i x is block low = subst (λ y. i < length (places_in y)) (sym is) (subst (λ n. i < n) (sym block.wide) low)
