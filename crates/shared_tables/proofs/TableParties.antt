-- The rule of a shared table stays true where only the views change.
use Rattle.std.proofs.Common.{◌≡◌, ℕ, List, ◌∷◌, ap, sym, ◌∙◌, subst, set, get_or}
use Rattle.shared_parties.{specs.declared.known.CallState.CallState, specs.CallStates.Sharing, specs.Parting.Regroups, specs.CallsAt.CallsAt, proofs.Sharings.sharing, proofs.Sharings.regrouped}
use Rattle.shared_tables.specs.{Seats.Table, Seats.count_of, TableRule.TableOf, TableRule.Rule}

-- the table with another count, and other views
abbrev pub recounted : {T : Type 0} → Table T → ℕ → List (CallState T) → Table T
recounted s n vs = record { words = set s.words 0 n; homes = s.homes; views = vs }

pub table_keeps_parties : (T : Type 0) (K : TableOf T) (s : Table T) → Rule K s → (k : Sharing (count_of s) s.views) × ((n : ℕ) (vs : List (CallState T)) → Regroups k n vs → Rule K (recounted s n vs))
table_keeps_parties T K s r = (
  sharing K.calls r.cells r.history (count_of s) s.views r.all,
  λ n vs same. record {
    cells = r.cells;
    words = r.words;
    history = r.history;
    counted = counted n;
    coded = r.coded;
    all = again n vs (regrouped K.calls r.cells r.history (count_of s) s.views r.all n vs same);
  },
)
  where
    written : (n : ℕ) → set s.words 0 n ≡ n ∷ r.words
    written n = ap (λ (l : List ℕ). set l 0 n) r.counted

    count : (n : ℕ) → get_or (set s.words 0 n) 0 0 ≡ n
    count n = ap (λ (l : List ℕ). get_or l 0 0) (written n)

    counted : (n : ℕ) → set s.words 0 n ≡ get_or (set s.words 0 n) 0 0 ∷ r.words
    counted n = written n ∙ ap (λ k. k ∷ r.words) (sym (count n))

    again : (n : ℕ) (vs : List (CallState T)) → CallsAt K.calls r.cells r.history n vs → CallsAt K.calls r.cells r.history (get_or (set s.words 0 n) 0 0) vs
    again n vs all = subst (λ (z : ℕ). CallsAt K.calls r.cells r.history z vs) (sym (count n)) all
