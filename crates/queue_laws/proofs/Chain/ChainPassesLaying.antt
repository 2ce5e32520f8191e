-- What the laying of a block, and the writing of an item, leave of what other parties hold.
use Rattle.std.proofs.Common.{ℕ, ◌-◌, ◌≡◌, ◌≢◌, ◌∙◌, inl, inr, refl, sym, ap}
use Rattle.queue_laws.specs.Chain.ChainCells.{Writing, Wrote, Rests, Laying, Opening, Unlinked, Linking, Linked, Use, Spare, Chain, ChainOk, Part, Write, mover_of, linker_of, owner}
use Rattle.queue_laws.specs.Chain.{ChainTransitions.laid_out, ChainTransitions.opened, ChainTransitions.chained, ChainTransitions.written, ChainTransitions.renamed, ChainPasses.Kept, ChainPasses.Passes}
use Rattle.queue_laws.proofs.Chain.ChainLeaves.{leaves_own, free_none, free_own, row_put, end_same, ItemKept, item_same, Once, once_same, spared_put, blocks_same, blocks_more}
use Rattle.queue_laws.proofs.Chain.ChainPasses.{passes_push}

-- U6
pub passes_laid_out : {A : Type 0} (c : Chain A) (who : ℕ) (f : ℕ) → ChainOk c → c.mover ≡ Laying who → c.links (c.blocks - 1) ≡ Unlinked → c.uses f ≡ Spare who → Passes who c (laid_out c who f)
passes_laid_out c who f ok is unlinked spare = passes_push who (record {
  tail = record { moves = inl refl; rests = λ e. absurd (let z : Laying who ≡ Rests = sym is ∙ e in cc); left = leaves_own (free_own (ap mover_of is)) (free_own refl) };
  places = λ n. item_same who (c.writers n);
  blocks = blocks_more who c.blocks c.names c.uses f spare;
  links = row_put (Once who linker_of Linked) c.links (c.blocks - 1) (Linking who) (λ l. once_same) (rw unlinked links_it);
  front = once_same;
}) refl
  where
    links_it : Once who linker_of Linked Unlinked (Linking who)
    links_it = record { stays = λ e. cc; left = leaves_own (free_none refl) (free_own refl) }

-- U7
pub passes_opened : {A : Type 0} (c : Chain A) (who : ℕ) → c.mover ≡ Opening who → Passes who c (opened c)
passes_opened c who is = passes_push who (record {
  tail = record { moves = inl refl; rests = λ e. inr refl; left = leaves_own (free_own (ap mover_of is)) (free_none refl) };
  places = λ n. item_same who (c.writers n);
  blocks = blocks_same;
  links = λ b. once_same;
  front = once_same;
}) refl

-- U8
pub passes_chained : {A : Type 0} (c : Chain A) (who : ℕ) (b : ℕ) → c.links b ≡ Linking who → Passes who c (chained c b)
passes_chained c who b is = passes_push who (record {
  tail = end_same;
  places = λ n. item_same who (c.writers n);
  blocks = blocks_same;
  links = row_put (Once who linker_of Linked) c.links b Linked (λ l. once_same) (record { stays = λ e. refl; left = leaves_own (free_own (ap linker_of is)) (free_none refl) });
  front = once_same;
}) refl

-- U9
pub passes_written : {A : Type 0} (c : Chain A) (who : ℕ) (n : ℕ) (v : A) → c.writers n ≡ Writing who v → Passes who c (written c n v)
passes_written {A} c who n v is = passes_push who (record {
  tail = end_same;
  places = row_put (ItemKept who) c.writers n (Wrote v) (item_same who) (rw is writes_it);
  blocks = blocks_same;
  links = λ b. once_same;
  front = once_same;
}) refl
  where
    writes_it : ItemKept {A = A} who (Writing who v) (Wrote v)
    writes_it = record { valued = λ x e. e; wrote = λ x e. cc; left = leaves_own (free_own refl) (free_none refl) }

-- a name that is used otherwise touches no part
kept_renamed : {A : Type 0} (r s : Chain A) (f : ℕ) (u : Use) (x : Part) → Kept r s x → Kept r (renamed s f u) x
kept_renamed r s f u (Write n) h = h
kept_renamed r s f u x h = h

pub owner_renamed : {A : Type 0} (s : Chain A) (f : ℕ) (u : Use) (x : Part) → owner (renamed s f u) x ≡ owner s x
owner_renamed s f u (Write n) = refl
owner_renamed s f u x = refl

-- U3, and a spare that is given up, after what the party did already
pub passes_renamed : {A : Type 0} {r : Chain A} (s : Chain A) (who : ℕ) (f : ℕ) (u : Use) → ((other : ℕ) → other ≢ who → s.uses f ≢ Spare other) → ((other : ℕ) → other ≢ who → u ≢ Spare other)
    → Passes who r s → Passes who r (renamed s f u)
passes_renamed {r = r} s who f u mine free pass =
    let uses = spared_put s.uses f u mine free in
    record {
      heads = pass.heads;
      tails = pass.tails;
      one = pass.one;
      stands = pass.stands;
      rests = pass.rests;
      grows = pass.grows;
      names = pass.names;
      valued = pass.valued;
      wrote = pass.wrote;
      linked = pass.linked;
      sees = pass.sees;
      spares = λ g other ne e. uses.spares g other ne (pass.spares g other ne e);
      spared = λ g other ne e. pass.spared g other ne (uses.spared g other ne e);
      held = λ x other ne e. kept_renamed r s f u x (pass.held x other ne e);
      owned = λ x other ne e. pass.owned x other ne (sym (owner_renamed s f u x) ∙ e);
    }
