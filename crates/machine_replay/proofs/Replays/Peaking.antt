-- The greatest number of blocks of a run, one event more at a time.
use Rattle.std.proofs.Common.{◌≡◌, ◌∙◌, ◌⊎◌, inl, inr, ℕ, ◌+◌, ◌<◌, ◌≤◌, nat_lt, true, false, if◌then◌else◌, Option, List, [], ◌∷◌, ◌++◌, length, refl, sym, ap, subst, arith, append_assoc, append-nil, length-append, suc}
use Rattle.std.proofs.lemmas.{List.length_push, Bool.ltb-true, Bool.ltb-false, Bool.le-ltb}
use Rattle.queue_steps.specs.Sequential.{blocks_of}
use Rattle.machine_replay.specs.{Vocabulary.Event, Vocabulary.Told, Vocabulary.Peak, Vocabulary.Running, Book.Book, Book.Run, Book.opening, Conforms.ComesBy, Conforms.IsPeak, Conforms.share, Peaks.bound_of, Peaks.opening_peak, Peaks.peaked}
use Rattle.machine_memory.{specs.Present.present, specs.SharedMemory.MemoryState, proofs.Presence.Sparing}
use Rattle.machine_steps.specs.World.{World}
use Rattle.machine_replay.proofs.Replays.Counting.{same-accepted, same-blocks}

-- a beginning of a list with one entry more is all of it, or a beginning of the list
abbrev IsSplit : {A : Type 0} → List A → A → List A → List A → Type 0
IsSplit {A} xs x past coming = ((coming ≡ []) × (past ≡ xs ++ x ∷ [])) ⊎ ((more : List A) × (xs ≡ past ++ more) × (coming ≡ more ++ x ∷ []))

split-last : {A : Type 0} (xs : List A) (x : A) (past coming : List A) → xs ++ x ∷ [] ≡ past ++ coming → IsSplit xs x past coming
split-last [] x [] (y ∷ []) e = inr ([], refl, sym e)
split-last [] x (y ∷ []) [] e = inl (refl, sym e)
split-last (w ∷ xs) x [] coming e = inr (w ∷ xs, refl, sym e)
split-last (w ∷ xs) x (y ∷ past) coming e =
    let heads : w ≡ y = cc in
    let tails : xs ++ x ∷ [] ≡ past ++ coming = cc in
    elim (split-last xs x past coming tails) [
      | inl h ↦ inl (h.0, rw (h.1, heads) refl)
      | inr h ↦ inr (h.0, rw (h.1, heads) refl, h.2)
    ]
split-last [] x past coming e = cc

split-length : {A B : Type 0} (xs : List A) (x : A) (past coming : List A) (ys : List B) (y : B) (past' coming' : List B)
    → length past ≡ length past' → length xs ≡ length ys → IsSplit xs x past coming → IsSplit ys y past' coming'
    → ((past ≡ xs ++ x ∷ []) × (past' ≡ ys ++ y ∷ [])) ⊎ (((more : List A) × (xs ≡ past ++ more)) × ((more : List B) × (ys ≡ past' ++ more)))
split-length xs x past coming ys y past' coming' same as_long (inl h) (inl k) = inl (h.1, k.1)
split-length xs x past coming ys y past' coming' same as_long (inr h) (inr k) = inr ((h.0, h.1), (k.0, k.1))
split-length xs x past coming ys y past' coming' same as_long (inl h) (inr k) =
    let a : length past ≡ length xs + 1 = ap length h.1 ∙ length_push xs x in
    let b : length ys ≡ length past' + length k.0 = ap length k.1 ∙ length-append past' k.0 in
    absurd (omega arith)
split-length xs x past coming ys y past' coming' same as_long (inr h) (inl k) =
    let a : length past' ≡ length ys + 1 = ap length k.1 ∙ length_push ys y in
    let b : length xs ≡ length past + length h.0 = ap length h.1 ∙ length-append past h.0 in
    absurd (omega arith)

-- of each event something is told
pub Run-length : {T : Type 0} (cap : Option ℕ) (parties : ℕ) (b : Book T) (es : List (Event T)) (ts : List (Told T)) (c : Book T) → Run cap parties b es ts c → length es ≡ length ts
Run-length cap parties b [] [] c run = refl
Run-length cap parties b (x ∷ es) (y ∷ ts) c run = ap suc (Run-length cap parties run.0 es ts c run.2)
Run-length cap parties b es ts c run = absurd run

-- a book that a run comes by still is one after an event more
comes-more : {T : Type 0} {cap : Option ℕ} {parties : ℕ} {es : List (Event T)} {ts : List (Told T)} {m : Book T} (e : Event T) (t : Told T) → ComesBy cap parties es ts m → ComesBy cap parties (es ++ e ∷ []) (ts ++ t ∷ []) m
comes-more e t by = record {
  past = by.past;
  coming = by.coming ++ e ∷ [];
  told_past = by.told_past;
  told_coming = by.told_coming ++ t ∷ [];
  events_are = ap (λ l. l ++ e ∷ []) by.events_are ∙ append_assoc by.past by.coming (e ∷ []);
  told_are = ap (λ l. l ++ t ∷ []) by.told_are ∙ append_assoc by.told_past by.told_coming (t ∷ []);
  run = by.run;
}

-- the last book is one
comes-last : {T : Type 0} {cap : Option ℕ} {parties : ℕ} {es : List (Event T)} {ts : List (Told T)} {m : Book T} → Run cap parties (opening cap) es ts m → ComesBy cap parties es ts m
comes-last {es = es} {ts = ts} run = record { past = es; coming = []; told_past = ts; told_coming = []; events_are = sym (append-nil es); told_are = sym (append-nil ts); run = run }

-- the blocks that a run's books span are as many as this at most
abbrev Spans : {T : Type 0} → Option ℕ → ℕ → List (Event T) → List (Told T) → ℕ → Type 0
Spans {T} cap parties es ts n = (m : Book T) → ComesBy cap parties es ts m → 0 < m.queue.accepted → blocks_of m.queue ≤ n

spans-more : {T : Type 0} (cap : Option ℕ) (parties : ℕ) (es : List (Event T)) (ts : List (Told T)) (e : Event T) (t : Told T) (c : Book T) (n k : ℕ)
    → length es ≡ length ts → Run cap parties (opening cap) (es ++ e ∷ []) (ts ++ t ∷ []) c → Spans cap parties es ts n → n ≤ k → (0 < c.queue.accepted → blocks_of c.queue ≤ k)
    → Spans cap parties (es ++ e ∷ []) (ts ++ t ∷ []) k
spans-more {T} cap parties es ts e t c n k as_long run spans le here m by some =
    go (split-length es e by.past by.coming ts t by.told_past by.told_coming (Run-length cap parties (opening cap) by.past by.told_past m by.run) as_long (split-last es e by.past by.coming by.events_are) (split-last ts t by.told_past by.told_coming by.told_are))
  where
    go : ((by.past ≡ es ++ e ∷ []) × (by.told_past ≡ ts ++ t ∷ [])) ⊎ (((more : List (Event T)) × (es ≡ by.past ++ more)) × ((more : List (Told T)) × (ts ≡ by.told_past ++ more))) → blocks_of m.queue ≤ k
    go (inl h) =
        let whole : Run cap parties (opening cap) by.past (ts ++ t ∷ []) m = subst (λ l. Run cap parties (opening cap) by.past l m) h.1 by.run in
        let accepted = same-accepted cap parties by.past (es ++ e ∷ []) (ts ++ t ∷ []) m c whole run in
        let blocks = same-blocks cap parties by.past (es ++ e ∷ []) (ts ++ t ∷ []) m c whole run in
        let now = here (omega arith) in
        omega arith
    go (inr h) =
        let old = spans m (record { past = by.past; coming = h.0.0; told_past = by.told_past; told_coming = h.1.0; events_are = h.0.1; told_are = h.1.1; run = by.run }) some in
        omega arith

-- before the first event
pub peak-first : {T : Type 0} (cap : Option ℕ) (parties : ℕ) → IsPeak {T = T} cap parties [] [] opening_peak
peak-first {T} cap parties = record {
  within = omega arith;
  at = opening cap;
  comes_by = comes-last refl;
  bound_is = refl;
  spans = λ m by some. absurd (none m by some);
}
  where
    none : (m : Book T) → ComesBy {T = T} cap parties [] [] m → 0 < m.queue.accepted → ⊥
    none m by some = go by.past by.told_past by.events_are by.run
      where
        go : (past : List (Event T)) (told : List (Told T)) → [] ≡ past ++ by.coming → Run cap parties (opening cap) past told m → ⊥
        go [] [] e run = let zero : m.queue.accepted ≡ 0 = ap (λ b. b.queue.accepted) run in omega arith
        go [] (t ∷ ts) e run = run
        go (x ∷ xs) ts e run = cc

-- after one event more, which leads to the machine w and the book c
pub peak-more : {T : Type 0} (cap : Option ℕ) (parties : ℕ) (es : List (Event T)) (ts : List (Told T)) (e : Event T) (t : Told T) (w : World (MemoryState T) (Running T)) (c : Book T) (p : Peak)
    → length es ≡ length ts → Run cap parties (opening cap) (es ++ e ∷ []) (ts ++ t ∷ []) c → IsPeak cap parties es ts p
    → present w.shared.blocks ≤ share c → (0 < present w.shared.blocks → bound_of w ≡ share c) → (0 < c.queue.accepted → blocks_of c.queue ≤ present w.shared.blocks)
    → IsPeak cap parties (es ++ e ∷ []) (ts ++ t ∷ []) (peaked w p)
peak-more cap parties es ts e t w c p as_long run peak within bound spans =
    elim (nat_lt p.blocks (present w.shared.blocks)) as (λ b. nat_lt p.blocks (present w.shared.blocks) ≡ b → IsPeak cap parties (es ++ e ∷ []) (ts ++ t ∷ []) (if b then record { blocks = present w.shared.blocks; bound = bound_of w } else p)) [
      | true ↦ λ is.
          let more = ltb-true p.blocks (present w.shared.blocks) is in
          let same = bound (omega arith) in
          record {
            within = omega arith;
            at = c;
            comes_by = comes-last run;
            bound_is = same;
            spans = spans-more cap parties es ts e t c p.blocks (present w.shared.blocks) as_long run peak.spans (omega arith) spans;
          }
      | false ↦ λ is.
          let few = ltb-false p.blocks (present w.shared.blocks) is in
          record {
            within = peak.within;
            at = peak.at;
            comes_by = comes-more e t peak.comes_by;
            bound_is = peak.bound_is;
            spans = spans-more cap parties es ts e t c p.blocks p.blocks as_long run peak.spans (omega arith) (λ some. let now = spans some in omega arith);
          }
    ] refl

-- there are no more blocks than the peak has
pub peaked-covers : {T : Type 0} (w : World (MemoryState T) (Running T)) (p : Peak) → present w.shared.blocks ≤ (peaked w p).blocks
peaked-covers w p =
    elim (nat_lt p.blocks (present w.shared.blocks)) as (λ b. nat_lt p.blocks (present w.shared.blocks) ≡ b → present w.shared.blocks ≤ (if b then record { blocks = present w.shared.blocks; bound = bound_of w } else p).blocks) [
      | true ↦ λ is. omega arith
      | false ↦ λ is. ltb-false p.blocks (present w.shared.blocks) is
    ] refl

-- where no number was given out, the peak stays
pub peaked-if : {T : Type 0} (w w' : World (MemoryState T) (Running T)) (p : Peak) (n n' : ℕ) → n ≡ length w.shared.blocks → n' ≡ length w'.shared.blocks → Sparing w.shared.blocks w'.shared.blocks → present w.shared.blocks ≤ p.blocks
    → (if nat_lt n n' then peaked w' p else p) ≡ peaked w' p
peaked-if w w' p n n' en en' spares covers =
    elim (nat_lt n n') as (λ b. nat_lt n n' ≡ b → (if b then peaked w' p else p) ≡ peaked w' p) [
      | true ↦ λ is. refl
      | false ↦ λ is.
          let few = ltb-false n n' is in
          let at_least = spares.0 in
          let less = spares.1 (omega arith) in
          let test : nat_lt p.blocks (present w'.shared.blocks) ≡ false = le-ltb p.blocks (present w'.shared.blocks) (omega arith) in
          rw test refl
    ] refl
