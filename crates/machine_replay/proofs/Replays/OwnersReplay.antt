-- A replay of one party is a run of one owner, read from its lists.
use Rattle.std.proofs.Common.{◌≡◌, ◌∙◌, ℕ, ◌+◌, ◌<◌, ◌≤◌, ◌==◌, true, false, List, [], ◌∷◌, ◌++◌, length, refl, sym, ap, arith, append_assoc, inl, inr}
use Rattle.std.{specs.List.AllByRecursion, proofs.lemmas.Bool.eq-eqb, proofs.lemmas.Bool.Decides.eqb_tells}
use Rattle.machine_replay.specs.{Book.opening, Conforms.entries_from, Conforms.skipped_entry, OneOwner.begun_calls, OneOwner.calls_from, OneOwner.is_among, OneOwner.OnePartyIsOneOwner}
use Rattle.machine_replay.specs.Vocabulary.{Call, Event, Told, Begin, Step, Skipped, Ran}
use Rattle.machine_replay.proofs.{Engine.Entries.each-all, Engine.Entries.each-more, Replays.OneOwnerRun.one_owner, Replays.Peaking.Run-length, Replays.Rising.skipped-late}

not-same : (m n : ℕ) → (m ≡ n → ⊥) → (m == n) ≡ false
not-same m n ne = elim (eqb_tells m n) [ inl t ↦ absurd (ne t.1) | inr f ↦ f.0 ]

-- the numbers of later events are others
pub among-later : (n : ℕ) (S : List ℕ) → AllByRecursion (λ m. n + 1 ≤ m) S → is_among n S ≡ false
among-later n [] late = refl
among-later n (m ∷ S) late = let le = late.0 in rw (not-same m n (λ e. absurd (omega arith)), among-later n S late.1) refl

-- and so are those of earlier ones
among-behind : (n : ℕ) (S E : List ℕ) → AllByRecursion (λ m. m < n) S → is_among n (S ++ E) ≡ is_among n E
among-behind n [] E early = refl
among-behind n (m ∷ S) E early = let lt = early.0 in rw (not-same m n (λ e. absurd (omega arith))) (among-behind n S E early.1)

among-here : (n : ℕ) (E : List ℕ) → is_among n (n ∷ E) ≡ true
among-here n E = rw (eq-eqb n n refl) refl

-- where an event was skipped or not, the calls from it on
calls-skipped : {T : Type 0} (n p : ℕ) (k : Call T) (S : List ℕ) (es : List (Event T)) → is_among n S ≡ true → calls_from n S (Begin p k ∷ es) ≡ calls_from (n + 1) S es
calls-skipped n p k S es is = rw is refl

calls-begun : {T : Type 0} (n p : ℕ) (k : Call T) (S : List ℕ) (es : List (Event T)) → is_among n S ≡ false → calls_from n S (Begin p k ∷ es) ≡ k ∷ calls_from (n + 1) S es
calls-begun n p k S es is = rw is refl

earlier : (n : ℕ) (S : List ℕ) → AllByRecursion (λ m. m < n) S → AllByRecursion (λ m. m < n + 1) S
earlier n S early = each-all _ _ S (λ m lt. omega arith) early

-- the calls that ran as what was told has them are those of the lists; S are the skipped events before these
pub begun-listed : {T : Type 0} (n : ℕ) (S : List ℕ) (es : List (Event T)) (ts : List (Told T)) → length es ≡ length ts → AllByRecursion (λ m. m < n) S → begun_calls es ts ≡ calls_from n (S ++ entries_from skipped_entry n es ts) es
begun-listed n S [] [] same early = refl
begun-listed n S (Begin p k ∷ es) (Skipped ∷ ts) same early =
    let late = entries_from skipped_entry (n + 1) es ts in
    let rest = begun-listed (n + 1) (S ++ n ∷ []) es ts (omega arith) (each-more _ S n (earlier n S early) (omega arith)) in
    let all : calls_from (n + 1) ((S ++ n ∷ []) ++ late) es ≡ calls_from (n + 1) (S ++ n ∷ late) es = ap (λ l. calls_from (n + 1) l es) (append_assoc S (n ∷ []) late) in
    rest ∙ all ∙ sym (calls-skipped n p k (S ++ n ∷ late) es (among-behind n S (n ∷ late) early ∙ among-here n late))
begun-listed n S (Step p g ∷ es) (Skipped ∷ ts) same early =
    let late = entries_from skipped_entry (n + 1) es ts in
    let rest = begun-listed (n + 1) (S ++ n ∷ []) es ts (omega arith) (each-more _ S n (earlier n S early) (omega arith)) in
    rest ∙ ap (λ l. calls_from (n + 1) l es) (append_assoc S (n ∷ []) late)
begun-listed n S (Begin p k ∷ es) (Ran x r ∷ ts) same early =
    let late = entries_from skipped_entry (n + 1) es ts in
    let rest = begun-listed (n + 1) S es ts (omega arith) (earlier n S early) in
    ap (λ l. k ∷ l) rest ∙ sym (calls-begun n p k (S ++ late) es (among-behind n S late early ∙ among-later n late (skipped-late (n + 1) es ts)))
begun-listed n S (Step p g ∷ es) (Ran x r ∷ ts) same early = begun-listed (n + 1) S es ts (omega arith) (earlier n S early)
begun-listed n S es ts same early = cc

pub owners_replay : {T A : Type 0} → OnePartyIsOneOwner T A
owners_replay cap events r c =
    let s = one_owner cap events r c in
    let m = s.conforms in
    let length_is = Run-length cap 1 (opening cap) events m.told m.last m.run in
    let listed = begun-listed 0 [] events m.told length_is tt in
    record {
      calls = s.calls;
      pending = s.pending;
      begun = ap (λ l. calls_from 0 l events) m.skipped ∙ sym listed ∙ s.begun;
      last = s.last;
      run = s.run;
      left = λ none. m.left ∙ sym (s.shown none).items;
    }
