-- Each step leaves words, links and blocks that stand for the chain after it, by what it makes of the one block that it alters.
use Rattle.std.proofs.Common.{ℕ, ◌<◌, ◌≡◌, ◌∙◌, inl, inr, Option, Some, None, List, sym, ap, subst, get_or, arith}
use Rattle.std.proofs.lemmas.Bool.Decides.{eqb_tells}
use Rattle.queue_steps.specs.State.{State}
use Rattle.machine_replay.specs.Vocabulary.{Answer}
use Rattle.queue_laws.specs.{Common.Stand.Stand, Chain.ChainAt.At, Chain.ChainAfter.after_of, Chain.ChainFacts.IsNamed, Chain.ChainCells.Chained, Chain.ChainCells.Chain, Chain.ChainCells.ChainOk}
use Rattle.queue_laws.proofs.Chain.{ChainEnds.Ends, ChainEnds.ends_of, ChainEnds.ends_made, ChainEnds.step_ends, ChainSlots.block_altered, ChainSlots.use_changed, ChainSlots.step_name, ChainSlots.step_block, ChainSlots.step_uses}
use Rattle.machine_memory.specs.Blocks.{BlockState}
use Rattle.machine_replay.proofs.Chain.Names.{NameIs, HeldIs, Codes, Changed, name_kept, one_name}

-- a step that gives no name another use
module _ {A : Type 0} {c : Chain A} {who : ℕ} {ms : List (State A)} {k : Stand A} (at : At c who ms k) (a : Answer ℕ) (ok : ChainOk c) (same : use_changed at a ≡ None) {e : Ends} {blocks : List (Option (BlockState A))} (codes : Codes c e blocks) where
  still : (b : ℕ) → b < c.blocks → b < (after_of at a).blocks
  still b lt = subst (λ n. b < n) (sym (step_uses at a same).1) lt

  use_is : (g : ℕ) → (after_of at a).uses g ≡ c.uses g
  use_is g = ap (λ u. u g) (step_uses at a same).0

  ends_then : ends_made k.op e ≡ ends_made k.op (ends_of c)
  ends_then = ap (ends_made k.op) codes.ends

  -- and alters no block
  pub codes_ends : block_altered at ≡ None → Codes (after_of at a) (ends_made k.op e) blocks
  codes_ends none = record {
    ends = ends_then ∙ sym (step_ends at a ok);
    unused = λ g le. use_is g ∙ codes.unused g le;
    name = λ g. subst (λ u. NameIs (after_of at a) g u (get_or blocks g None)) (sym (use_is g))
        (name_kept c (after_of at a) g (c.uses g) (get_or blocks g None) (λ b named. (still b named.0, step_block at a ok b named.0 (λ z. let y : None ≡ Some b = sym none ∙ z in cc))) (codes.name g));
  }

  -- and alters the block b, which stands for it then
  pub codes_altered : {after : List (Option (BlockState A))} (b f : ℕ) (y : Option (BlockState A)) → block_altered at ≡ Some b → IsNamed c b f → Changed blocks after f y → HeldIs (after_of at a) b y
      → Codes (after_of at a) (ends_made k.op e) after
  codes_altered {after} b f y alters named changed held = record {
    ends = ends_then ∙ sym (step_ends at a ok);
    unused = λ g le. use_is g ∙ codes.unused g (let n = changed.size in omega arith);
    name = λ g. elim (eqb_tells g f) [
      | inl t ↦ subst (λ h. NameIs (after_of at a) h ((after_of at a).uses h) (get_or after h None)) (sym t.1) here
      | inr t ↦ subst (λ u. NameIs (after_of at a) g u (get_or after g None)) (sym (use_is g)) (subst (λ z. NameIs (after_of at a) g (c.uses g) z) (sym (changed.others g t.1))
          (name_kept c (after_of at a) g (c.uses g) (get_or blocks g None)
          (λ i is. (still i is.0, step_block at a ok i is.0 (λ z. let y : Some b ≡ Some i = sym alters ∙ z in let own : i ≡ b = cc in t.1 (one_name c b f g named (subst (λ j. IsNamed c j g) own is))))) (codes.name g)))
    ];
  }
    where
      here : NameIs (after_of at a) f ((after_of at a).uses f) (get_or after f None)
      here =
          let purpose : (after_of at a).uses f ≡ Chained b = use_is f ∙ (ap c.uses named.1 ∙ ok.name b named.0) in
          subst (λ u. NameIs (after_of at a) f u (get_or after f None)) (sym purpose) ((still b named.0, named.1 ∙ sym (step_name at a b named.0)), subst (λ z. HeldIs (after_of at a) b z) (sym changed.here) held)
