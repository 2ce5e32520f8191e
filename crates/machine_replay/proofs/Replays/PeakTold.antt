-- The greatest number of blocks, read from the lists of a replay and its history: what is told of the first events fixes how many items there are then, and how many calls are in progress.
use Rattle.std.proofs.Common.{◌≡◌, ◌∙◌, ℕ, ◌+◌, ◌/◌, ◌<◌, ◌≤◌, ◌==◌, ◌||◌, nat_lt, Bool, true, false, Option, Some, None, List, [], ◌∷◌, ◌++◌, length, take, drop, filter, refl, sym, ap, subst, arith, append_assoc, length-append, length-take-le, take-append-drop}
use lib.Seq.{take-append_seam}
use Rattle.std.{specs.List.AllByRecursion, proofs.lemmas.Bool.lt-ltb, proofs.lemmas.Bool.le-ltb}
use Rattle.machine_replay.specs.Vocabulary.{Call, Reply, BLOCK_SLOTS, Event, Told, EffectKind, Begin, Step, Skipped, Ran}
use Rattle.queue_steps.specs.{State.State, State.start, Effect.Runs, Effect.IsHistory, Effect.made, Effect.after_from, Sequential.blocks_of, Sequential.spanned}
use Rattle.queue_laws.proofs.Common.Runs.{cap_made}
use Rattle.machine_replay.specs.{Book.Book, Book.Run, Book.kind_of, Book.opening, Meaning.Entry, Meaning.chosen, Meaning.effects_in, Meaning.kinds_in, OneOwner.begun_calls, OneOwner.calls_from, OneOwner.is_among, PeakTold.state_before, PeakTold.in_progress, PeakTold.PeakIsOfTheRun}
use Rattle.machine_replay.specs.Conforms.{party_of, entries_from, effect_entry, reply_entry, skipped_entry}
use Rattle.machine_replay.proofs.{Engine.Entries.each-all, Replays.Growing.run-cap, Progress.Alone.Counts, Progress.Alone.counts-first, Progress.Alone.counts-happens, Progress.Alone.some-busy, Replays.OwnersReplay.among-later, Replays.OwnersReplay.begun-listed, Replays.Peaking.Run-length}
use Rattle.machine_replay.proofs.Replays.Counting.{accepted_by, length_by, counts_all, made-accepted, made-length, run-accepted, run-length}
use Rattle.machine_replay.proofs.Replays.Rising.{effects-early, effects-late, replies-early, replies-late, skipped-late}

-- the entries of events, and of those behind them
entries-append : {T E : Type 0} (entry : ℕ → ℕ → Told T → List E) (n k : ℕ) (es cs : List (Event T)) (ts us : List (Told T)) → length es ≡ length ts → k ≡ n + length es
    → entries_from entry n (es ++ cs) (ts ++ us) ≡ entries_from entry n es ts ++ entries_from entry k cs us
entries-append entry n k [] cs [] us same is = let at : n ≡ k = omega arith in ap (λ j. entries_from entry j cs us) at
entries-append entry n k (x ∷ es) cs (y ∷ ts) us same is =
    ap (λ l. entry n (party_of x) y ++ l) (entries-append entry (n + 1) k es cs ts us (omega arith) (omega arith)) ∙ sym (append_assoc (entry n (party_of x) y) (entries_from entry (n + 1) es ts) (entries_from entry k cs us))
entries-append entry n k es cs ts us same is = absurd (omega arith)

-- what passes a test stands in front of what does not
filter-front : {X : Type 0} (p : X → Bool) (xs ys : List X) → AllByRecursion (λ x. p x ≡ true) xs → AllByRecursion (λ y. p y ≡ false) ys → filter p (xs ++ ys) ≡ xs
filter-front p [] [] in_front past = refl
filter-front p [] (y ∷ ys) in_front past = rw past.0 (filter-front p [] ys in_front past.1)
filter-front p (x ∷ xs) ys in_front past = rw (in_front.0, filter-front p xs ys in_front.1 past) refl

chosen-front : {T : Type 0} (p : Entry T → Bool) (xs ys : List (Entry T)) → AllByRecursion (λ x. p x ≡ true) xs → AllByRecursion (λ y. p y ≡ false) ys → chosen p (xs ++ ys) ≡ effects_in xs
chosen-front p [] [] in_front past = refl
chosen-front p [] (y ∷ ys) in_front past = rw past.0 (chosen-front p [] ys in_front past.1)
chosen-front p (x ∷ xs) ys in_front past = rw (in_front.0, chosen-front p xs ys in_front.1 past) refl

-- the calls that were begun, whatever was skipped later
among-ahead : (k n : ℕ) (A B : List ℕ) → k < n → AllByRecursion (λ m. n ≤ m) B → is_among k (A ++ B) ≡ is_among k A
among-ahead k n [] B lt late = among-later k B (each-all _ _ B (λ m le. omega arith) late)
among-ahead k n (m ∷ A) B lt late = ap (λ b. (m == k) || b) (among-ahead k n A B lt late)

begin-same : {T : Type 0} (p k : ℕ) (c : Call T) (A B : List ℕ) (es : List (Event T)) → is_among k A ≡ is_among k B → calls_from (k + 1) A es ≡ calls_from (k + 1) B es → calls_from k A (Begin p c ∷ es) ≡ calls_from k B (Begin p c ∷ es)
begin-same p k c A B es among rest = rw (among, rest) refl

calls-front : {T : Type 0} (k n : ℕ) (A B : List ℕ) (es : List (Event T)) → k + length es ≤ n → AllByRecursion (λ m. n ≤ m) B → calls_from k (A ++ B) es ≡ calls_from k A es
calls-front k n A B [] le late = refl
calls-front k n A B (Begin p c ∷ es) le late = begin-same p k c (A ++ B) A es (among-ahead k n A B (omega arith) late) (calls-front (k + 1) n A B es (omega arith) late)
calls-front k n A B (Step p g ∷ es) le late = calls-front (k + 1) n A B es (omega arith) late

-- the calls in progress are those that were begun and have no reply
busy-told : {T : Type 0} (cap : Option ℕ) (parties k : ℕ) (b c : Book T) (es : List (Event T)) (ts : List (Told T)) → Counts parties b → Run cap parties b es ts c
    → c.busy + length (entries_from reply_entry k es ts) ≡ b.busy + length (begun_calls es ts)
busy-told cap parties k b c [] [] h run = let e : c.busy ≡ b.busy = ap (λ z. z.busy) run in omega arith
busy-told cap parties k b c (Begin p q ∷ es) (Ran None None ∷ ts) h run =
    let rest = busy-told cap parties (k + 1) run.0 c es ts (counts-happens cap parties b run.0 (Begin p q) (Ran None None) h run.1) run.2 in
    let e : run.0.busy ≡ b.busy + 1 = ap (λ z. z.busy) run.1.2 in
    omega arith
busy-told cap parties k b c (Begin p q ∷ es) (Ran None (Some r) ∷ ts) h run =
    let rest = busy-told cap parties (k + 1) run.0 c es ts (counts-happens cap parties b run.0 (Begin p q) (Ran None (Some r)) h run.1) run.2 in
    let e : run.0.busy ≡ b.busy = ap (λ z. z.busy) run.1.3 in
    omega arith
busy-told cap parties k b c (Begin p q ∷ es) (Ran (Some x) r ∷ ts) h run = absurd run.1
busy-told cap parties k b c (Step p g ∷ es) (Ran x None ∷ ts) h run =
    let rest = busy-told cap parties (k + 1) run.0 c es ts (counts-happens cap parties b run.0 (Step p g) (Ran x None) h run.1) run.2 in
    let e = run.1.1.busy in
    omega arith
busy-told cap parties k b c (Step p g ∷ es) (Ran x (Some r) ∷ ts) h run =
    let rest = busy-told cap parties (k + 1) run.0 c es ts (counts-happens cap parties b run.0 (Step p g) (Ran x (Some r)) h run.1) run.2 in
    let e = run.1.1.busy in
    let some = some-busy parties b p run.1.1.o h run.1.1.in_call in
    omega arith
busy-told cap parties k b c [] (t ∷ ts) h run = absurd run
busy-told cap parties k b c (e ∷ es) [] h run = absurd run
busy-told cap parties k b c (Begin p q ∷ es) (Skipped ∷ ts) h run =
    let rest = busy-told cap parties (k + 1) run.0 c es ts (counts-happens cap parties b run.0 (Begin p q) Skipped h run.1) run.2 in
    let e : run.0.busy ≡ b.busy = ap (λ z. z.busy) run.1.1 in
    omega arith
busy-told cap parties k b c (Step p g ∷ es) (Skipped ∷ ts) h run =
    let rest = busy-told cap parties (k + 1) run.0 c es ts (counts-happens cap parties b run.0 (Step p g) Skipped h run.1) run.2 in
    let e : run.0.busy ≡ b.busy = ap (λ z. z.busy) run.1.1 in
    omega arith

-- how many they are, by the lists of the whole run
busy-before : {T : Type 0} (cap : Option ℕ) (parties : ℕ) (events es cs : List (Event T)) (told ts us : List (Told T)) (S : List ℕ) (R : List (ℕ × ℕ × Reply T)) (b : Book T)
    → events ≡ es ++ cs → told ≡ ts ++ us → S ≡ entries_from skipped_entry 0 events told → R ≡ entries_from reply_entry 0 events told → Run cap parties (opening cap) es ts b
    → b.busy ≡ in_progress events S R (length es)
busy-before {T} cap parties events es cs told ts us S R b events_are told_are skipped replies run =
    let n = length es in
    let same = Run-length cap parties (opening cap) es ts b run in
    let S1 : List ℕ = entries_from skipped_entry 0 es ts in
    let S2 : List ℕ = entries_from skipped_entry n cs us in
    let early : List (ℕ × ℕ × Reply T) = entries_from reply_entry 0 es ts in
    let late : List (ℕ × ℕ × Reply T) = entries_from reply_entry n cs us in
    let skipped_are : S ≡ S1 ++ S2 = rw (skipped, events_are, told_are) (entries-append skipped_entry 0 n es cs ts us same (omega arith)) in
    let replies_are : R ≡ early ++ late = rw (replies, events_are, told_are) (entries-append reply_entry 0 n es cs ts us same (omega arith)) in
    let first : take n events ≡ es = ap (take n) events_are ∙ take-append_seam es cs in
    let calls : calls_from 0 S (take n events) ≡ begun_calls es ts =
    ap (λ l. calls_from 0 S l) first ∙ ap (λ l. calls_from 0 l es) skipped_are ∙ calls-front 0 n S1 S2 es (omega arith) (skipped-late n cs us) ∙ sym (begun-listed 0 [] es ts same tt) in
    let before : filter (λ y. nat_lt y.0 n) R ≡ early =
    ap (filter (λ y. nat_lt y.0 n)) replies_are
    ∙ filter-front (λ y. nat_lt y.0 n) early late (each-all _ _ early (λ y lt. lt-ltb y.0 n lt) (replies-early 0 n es ts (omega arith))) (each-all _ _ late (λ y le. le-ltb y.0 n le) (replies-late n cs us)) in
    let counted = busy-told cap parties 0 (opening cap) b es ts (counts-first T cap parties) run in
    let many = ap length calls in
    let few = ap length before in
    omega arith

-- the state after effects of these kinds
abbrev counts_kinds : (EffectKind → ℕ → ℕ) → List (ℕ × ℕ × EffectKind) → ℕ → ℕ
counts_kinds f [] n = n
counts_kinds f (x ∷ xs) n = counts_kinds f xs (f x.2 n)

told-kinds : {T : Type 0} (f : EffectKind → ℕ → ℕ) (k n : ℕ) (es : List (Event T)) (ts : List (Told T)) → length es ≡ length ts → counts_all f ts n ≡ counts_kinds f (entries_from effect_entry k es ts) n
told-kinds f k n [] [] same = refl
told-kinds f k n (e ∷ es) (Ran (Some x) r ∷ ts) same = told-kinds f (k + 1) (f x n) es ts (omega arith)
told-kinds f k n (e ∷ es) (t ∷ ts) same = told-kinds f (k + 1) n es ts (omega arith)
told-kinds f k n es ts same = absurd (omega arith)

kinds-accepted : {T : Type 0} (Q : State T) (H : List (Entry T)) → (after_from Q (effects_in H)).accepted ≡ counts_kinds accepted_by (kinds_in H) Q.accepted
kinds-accepted Q [] = refl
kinds-accepted Q (x ∷ H) = kinds-accepted (made x.effect Q) H ∙ ap (counts_kinds accepted_by (kinds_in H)) (made-accepted x.effect Q)

kinds-length : {T : Type 0} (Q : State T) (H : List (Entry T)) → Runs Q (effects_in H) → length (after_from Q (effects_in H)).items ≡ counts_kinds length_by (kinds_in H) (length Q.items)
kinds-length Q [] run = refl
kinds-length Q (x ∷ H) run = kinds-length (made x.effect Q) H run.1 ∙ ap (counts_kinds length_by (kinds_in H)) (made-length x.effect Q run.0)

kinds-cap : {T : Type 0} (Q : State T) (H : List (Entry T)) → (after_from Q (effects_in H)).cap ≡ Q.cap
kinds-cap Q [] = refl
kinds-cap Q (x ∷ H) = kinds-cap (made x.effect Q) H ∙ cap_made x.effect Q

front-runs : {T : Type 0} (Q : State T) (xs ys : List (Entry T)) → Runs Q (effects_in (xs ++ ys)) → Runs Q (effects_in xs)
front-runs Q [] ys run = tt
front-runs Q (x ∷ xs) ys run = (run.0, front-runs (made x.effect Q) xs ys run.1)

-- the history parted as its kinds are
record Halves {T : Type 0} (H : List (Entry T)) (K L : List (ℕ × ℕ × EffectKind)) : Type 0 where
  one : List (Entry T)
  other : List (Entry T)
  are : H ≡ one ++ other
  first : kinds_in one ≡ K
  second : kinds_in other ≡ L

halves : {T : Type 0} (H : List (Entry T)) (K L : List (ℕ × ℕ × EffectKind)) → kinds_in H ≡ K ++ L → Halves H K L
halves H [] L e = record { one = []; other = H; are = refl; first = refl; second = e }
halves [] (k ∷ K) L e = cc
halves (x ∷ H) (k ∷ K) L e =
    let head : (x.event, x.party, kind_of x.effect) ≡ k = cc in
    let tails : kinds_in H ≡ K ++ L = cc in
    let rest = halves H K L tails in
    record { one = x ∷ rest.one; other = rest.other; are = ap (λ l. x ∷ l) rest.are; first = rw (head, rest.first) refl; second = rest.second }

kinds-all : {T : Type 0} (P : ℕ → Type 0) (H : List (Entry T)) → AllByRecursion (λ y. P y.0) (kinds_in H) → AllByRecursion (λ x. P x.event) H
kinds-all P [] all = tt
kinds-all P (x ∷ H) all = (all.0, kinds-all P H all.1)

-- as many were accepted, as many are there, and the capacity is the same
record IsAlike {T : Type 0} (P Q : State T) : Type 0 where
  accepted : P.accepted ≡ Q.accepted
  items : length P.items ≡ length Q.items
  cap : P.cap ≡ Q.cap

-- the state of a history before an event is like that of the book there
alike-before : {T : Type 0} (cap : Option ℕ) (parties : ℕ) (events es cs : List (Event T)) (told ts us : List (Told T)) (H : List (Entry T)) (b : Book T)
    → events ≡ es ++ cs → told ≡ ts ++ us → kinds_in H ≡ entries_from effect_entry 0 events told → IsHistory cap (effects_in H) → Run cap parties (opening cap) es ts b
    → IsAlike (state_before cap H (length es)) b.queue
alike-before {T} cap parties events es cs told ts us H b events_are told_are kinds legal run =
    let n = length es in
    let same = Run-length cap parties (opening cap) es ts b run in
    let K : List (ℕ × ℕ × EffectKind) = entries_from effect_entry 0 es ts in
    let L : List (ℕ × ℕ × EffectKind) = entries_from effect_entry n cs us in
    let kinds_are : kinds_in H ≡ K ++ L = rw (kinds, events_are, told_are) (entries-append effect_entry 0 n es cs ts us same (omega arith)) in
    let h = halves H K L kinds_are in
    let early = kinds-all (λ m. m < n) h.one (rw h.first (effects-early 0 n es ts (omega arith))) in
    let late = kinds-all (λ m. n ≤ m) h.other (rw h.second (effects-late n cs us)) in
    let before : chosen (λ x. nat_lt x.event n) H ≡ effects_in h.one =
    ap (chosen (λ x. nat_lt x.event n)) h.are ∙ chosen-front (λ x. nat_lt x.event n) h.one h.other (each-all _ _ h.one (λ x lt. lt-ltb x.event n lt) early) (each-all _ _ h.other (λ x le. le-ltb x.event n le) late) in
    let runs : Runs (start cap 0) (effects_in h.one) = front-runs (start cap 0) h.one h.other (subst (λ l. Runs (start cap 0) (effects_in l)) h.are legal) in
    record {
      accepted =
          ap (λ l. (after_from (start cap 0) l).accepted) before ∙ kinds-accepted (start cap 0) h.one ∙ ap (λ l. counts_kinds accepted_by l 0) h.first
          ∙ sym (told-kinds accepted_by 0 0 es ts same) ∙ sym (run-accepted cap parties (opening cap) es ts b run);
      items =
          ap (λ l. length (after_from (start cap 0) l).items) before ∙ kinds-length (start cap 0) h.one runs ∙ ap (λ l. counts_kinds length_by l 0) h.first
          ∙ sym (told-kinds length_by 0 0 es ts same) ∙ sym (run-length cap parties (opening cap) es ts b run);
      cap = ap (λ l. (after_from (start cap 0) l).cap) before ∙ kinds-cap (start cap 0) h.one ∙ sym (run-cap cap parties (opening cap) es ts b run);
    }

alike-blocks : {T : Type 0} (P Q : State T) → IsAlike P Q → blocks_of P ≡ blocks_of Q
alike-blocks P Q a = ap (λ o. spanned o P.accepted (length P.items)) a.cap ∙ ap (λ m. spanned Q.cap m (length P.items)) a.accepted ∙ ap (spanned Q.cap Q.accepted) a.items

-- the book that a run comes by
run-split : {T : Type 0} (cap : Option ℕ) (parties : ℕ) (b : Book T) (es cs : List (Event T)) (ts us : List (Told T)) (c : Book T) → length es ≡ length ts → Run cap parties b (es ++ cs) (ts ++ us) c → (m : Book T) × Run cap parties b es ts m
run-split cap parties b [] cs [] us c same run = (b, refl)
run-split cap parties b (x ∷ es) cs (t ∷ ts) us c same run =
    let rest = run-split cap parties run.0 es cs ts us c (omega arith) run.2 in
    (rest.0, (run.0, run.1, rest.1))
run-split cap parties b es cs ts us c same run = absurd (omega arith)

length-first : {X : Type 0} (n : ℕ) (xs : List X) → n ≤ length xs → length (take n xs) ≡ n
length-first n xs le = length-take-le n xs le

pub peak_told : {T A : Type 0} → PeakIsOfTheRun T A
peak_told {T} cap parties events r c h =
    let p = c.peak in
    let by = p.comes_by in
    let kinds : kinds_in h.history ≡ entries_from effect_entry 0 events c.told = sym h.kinds ∙ c.effects in
    let alike = alike-before cap parties events by.past by.coming c.told by.told_past by.told_coming h.history p.at by.events_are by.told_are kinds h.legal by.run in
    let busy = busy-before cap parties events by.past by.coming c.told by.told_past by.told_coming r.skipped.items r.replies.items p.at by.events_are by.told_are c.skipped c.replies by.run in
    record {
      within = p.within;
      at = length by.past;
      upto = let all = ap length by.events_are ∙ length-append by.past by.coming in omega arith;
      bound_is = p.bound_is ∙ ap (λ m. m / BLOCK_SLOTS + 2 + p.at.busy) (sym alike.items) ∙ ap (λ m. length (state_before cap h.history (length by.past)).items / BLOCK_SLOTS + 2 + m) busy;
      spans = λ n le some.
          let es = take n events in
          let cs = drop n events in
          let ts = take n c.told in
          let us = drop n c.told in
          let events_are : events ≡ es ++ cs = sym (take-append-drop n events) in
          let told_are : c.told ≡ ts ++ us = sym (take-append-drop n c.told) in
          let as_long = Run-length cap parties (opening cap) events c.told c.last c.run in
          let first : length es ≡ n = length-first n events le in
          let same : length es ≡ length ts = first ∙ sym (length-first n c.told (omega arith)) in
          let whole : Run cap parties (opening cap) (es ++ cs) (ts ++ us) c.last =
          subst (λ l. Run cap parties (opening cap) l (ts ++ us) c.last) events_are (subst (λ l. Run cap parties (opening cap) events l c.last) told_are c.run) in
          let m = run-split cap parties (opening cap) es cs ts us c.last same whole in
          let there = alike-before cap parties events es cs c.told ts us h.history m.0 events_are told_are kinds h.legal m.1 in
          let here : IsAlike (state_before cap h.history n) m.0.queue = subst (λ k. IsAlike (state_before cap h.history k) m.0.queue) first there in
          let accepted = here.accepted in
          let spanned_is = alike-blocks (state_before cap h.history n) m.0.queue here in
          let blocks = p.spans m.0 (record { past = es; coming = cs; told_past = ts; told_coming = us; events_are = events_are; told_are = told_are; run = m.1 }) (omega arith) in
          omega arith;
    }
