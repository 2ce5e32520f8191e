-- The table of a shared ring at its beginning keeps the rule.
use Rattle.std.proofs.Common.{ℕ, zero, suc, ◌+◌, ◌<◌, ◌≡◌, Some, None, List, [], ◌∷◌, ◌++◌, map, length, set, refl, ap, sym, ◌∙◌, subst, replicate, arith, length-set}
use Rattle.std.proofs.lemmas.List.{get_or-set_other}
use mathlib.Core.Option.{some}
use Rattle.atomic_table.specs.Table.{opening}
use Rattle.queue_steps.specs.{Words.IsRing, Shares.entire}
use Rattle.queue_laws.specs.Ring.RingOpening.{numbers_below, opening_ring, opening_shared}
use Rattle.queue_laws.proofs.Ring.RingOpening.{opening_ok, opening_codes}
use Rattle.own_cells.{specs.OneRing.RingWords.stamp_word, specs.OneRing.RingWords.bare_words, specs.declared.ring.ring_words.TheConstants.TAIL, specs.declared.ring.ring_words.TheConstants.HEAD, proofs.OneRing.Openings.homes_at, proofs.OneRing.Openings.bare_long, proofs.OneRing.Openings.bare_tail, proofs.OneRing.Openings.bare_head, proofs.OneRing.Openings.bare_one, proofs.OneRing.RingWrites.word_in, proofs.OneRing.RingWrites.word_after, proofs.OneRing.RingWrites.stamps_more}
use Rattle.shared_parties.{specs.declared.known.CallState.CallState, specs.Known.party, specs.CallStates.idle, specs.CallStates.is_busy, proofs.FirstParty.first_rests, proofs.FirstParty.first_kept}
use Rattle.shared_tables.specs.{TableRule.Rule, RingTable.ring_table, RingTable.LiesIn, RingOpening.IsFirst, Laws.RingSteps.recounted}

homes_long : {A : Type 0} (n : ℕ) (a : A) → length (map some (replicate n a)) ≡ n
homes_long zero a = refl
homes_long (suc n) a = ap suc (homes_long n a)

-- the words before the stamps are written, and when one more is
pub first_bare : (cap : ℕ) → IsFirst cap 0 (bare_words cap 0 0)
first_bare cap = record { long = bare_long cap 0 0; one = bare_one cap 0 0; tail = bare_tail cap 0 0; head = bare_head cap 0 0; stamps = refl }

pub first_more : (cap i : ℕ) (ws : List ℕ) → i < cap → IsFirst cap i ws → IsFirst cap (i + 1) (set ws (stamp_word i) i)
first_more cap i ws lt f =
    let below = word_in cap i lt in let long = f.long in let next : suc i ≡ i + 1 = omega arith in
    record {
      long = length-set ws (stamp_word i) i ∙ f.long;
      one = get_or-set_other ws (stamp_word i) 0 i 0 (λ e. word_after i 0 (omega arith) (sym e)) ∙ f.one;
      tail = get_or-set_other ws (stamp_word i) TAIL i 0 (λ e. word_after i TAIL (omega arith) (sym e)) ∙ f.tail;
      head = get_or-set_other ws (stamp_word i) HEAD i 0 (λ e. word_after i HEAD (omega arith) (sym e)) ∙ f.head;
      stamps = stamps_more i ws i (omega (arith, below, long)) ∙ (ap (λ xs. xs ++ i ∷ []) f.stamps ∙ ap numbers_below next);
    }

module _ (T : Type 0) (cap : ℕ) where
  abbrev pub seat : CallState T
  seat = idle (party (Some cap) [] [] entire)

  opens_one : (rest : List ℕ) → IsRing cap → LiesIn cap (opening_shared T cap) (0 ∷ rest) → Rule (ring_table cap) (opening (1 ∷ rest) (replicate cap None) seat)
  opens_one rest ring lies = record {
    cells = opening_ring T;
    words = rest;
    history = [];
    counted = refl;
    coded = (opening_shared T cap, opening_codes T cap, lies, (homes_long cap None, λ i lt. homes_at cap i None (subst (λ n. i < n) (sym (homes_long cap None)) lt)));
    all = record {
      ok = opening_ok T cap ring;
      state = refl;
      calls = λ j d c e is. absurd (first_rests (Some cap) j d e (ap is_busy is));
      free = λ j none. λ k e. cc;
      kept = first_kept (Some cap);
    };
  }

  pub ring_opens : (ws : List ℕ) → IsRing cap → IsFirst cap cap ws → Rule (ring_table cap) (opening ws (replicate cap None) seat)
  ring_opens [] ring first = let long = first.long in absurd (omega (arith, long))
  ring_opens (n ∷ rest) ring first =
      subst (λ k. Rule (ring_table cap) (opening (k ∷ rest) (replicate cap None) seat)) (sym first.one)
      (opens_one rest ring (recounted cap (opening_shared T cap) n 0 rest (record { long = first.long; tail = first.tail; head = first.head; stamps = first.stamps })))
