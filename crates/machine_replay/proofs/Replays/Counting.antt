-- How many items a run accepted and how many are left: what is told of the events fixes both.
use Rattle.std.proofs.Common.{◌≡◌, ◌∙◌, ℕ, ◌+◌, ◌-◌, Option, Some, None, List, [], ◌∷◌, length, refl, sym, ap, arith, length-append}
use Rattle.queue_steps.specs.{State.State, Effect.Fits, Effect.made, Effect.rest, Effect.with_coming, Sequential.blocks_of, Sequential.spanned}
use Rattle.machine_replay.specs.{Vocabulary.Effect, Vocabulary.Event, Vocabulary.Told, Vocabulary.EffectKind, Vocabulary.Begin, Vocabulary.Step, Vocabulary.Skipped, Vocabulary.Ran, Book.Book, Book.Open, Book.Moves, Book.Happens, Book.Run, Book.kind_of, Book.opening}
use Rattle.machine_replay.proofs.Replays.Growing.{run-cap}

-- how many items are accepted, and how many are there, after an effect of this kind
abbrev pub accepted_by : EffectKind → ℕ → ℕ
accepted_by EffectKind.Append n = n + 1
accepted_by EffectKind.Replace n = n + 1
accepted_by EffectKind.Arrive n = n + 1
accepted_by x n = n

abbrev pub length_by : EffectKind → ℕ → ℕ
length_by EffectKind.Append n = n + 1
length_by EffectKind.Take n = n - 1
length_by EffectKind.Front n = n - 1
length_by EffectKind.Arrive n = n + 1
length_by x n = n

length-rest : {T : Type 0} (xs : List T) → length (rest xs) ≡ length xs - 1
length-rest [] = refl
length-rest (x ∷ xs) = omega arith

pub made-accepted : {T : Type 0} (e : Effect T) (Q : State T) → (made e Q).accepted ≡ accepted_by (kind_of e) Q.accepted
made-accepted (Effect.Append v) Q = refl
made-accepted e Q = refl

pub made-length : {T : Type 0} (e : Effect T) (Q : State T) → Fits e Q → length (made e Q).items ≡ length_by (kind_of e) (length Q.items)
made-length (Effect.Append v) Q fits = omega (arith, length-append Q.items (v ∷ []))
made-length (Effect.Replace old v) Q fits = sym (ap length fits.2)
made-length Effect.Arrive Q fits = ap (λ o. length (with_coming Q.items o)) fits.1 ∙ (omega (arith, length-append Q.items (fits.0 ∷ [])))
made-length Effect.Close Q fits = refl
made-length Effect.SelfClose Q fits = refl
made-length e Q fits = length-rest Q.items

-- the same after what is told of an event, and of events
abbrev pub counts_if : (EffectKind → ℕ → ℕ) → Option EffectKind → ℕ → ℕ
counts_if f None n = n
counts_if f (Some k) n = f k n

abbrev pub counts_told : {T : Type 0} → (EffectKind → ℕ → ℕ) → Told T → ℕ → ℕ
counts_told f Skipped n = n
counts_told f (Ran k r) n = counts_if f k n

abbrev pub counts_all : {T : Type 0} → (EffectKind → ℕ → ℕ) → List (Told T) → ℕ → ℕ
counts_all f [] n = n
counts_all f (t ∷ ts) n = counts_all f ts (counts_told f t n)

moves-accepted : {T : Type 0} (Q : State T) (o : Open T) (k : Option EffectKind) (R : State T) (es : List (Effect T)) → Moves Q o k R es → R.accepted ≡ counts_if accepted_by k Q.accepted
moves-accepted Q o None R es m = ap (λ q. q.accepted) m.0
moves-accepted Q o (Some k) R es m = ap (λ q. q.accepted) m.4 ∙ made-accepted m.0 Q ∙ ap (λ j. accepted_by j Q.accepted) m.1

moves-length : {T : Type 0} (Q : State T) (o : Open T) (k : Option EffectKind) (R : State T) (es : List (Effect T)) → Moves Q o k R es → length R.items ≡ counts_if length_by k (length Q.items)
moves-length Q o None R es m = ap (λ q. length q.items) m.0
moves-length Q o (Some k) R es m = ap (λ q. length q.items) m.4 ∙ made-length m.0 Q m.3 ∙ ap (λ j. length_by j (length Q.items)) m.1

happens-accepted : {T : Type 0} (cap : Option ℕ) (parties : ℕ) (b : Book T) (e : Event T) (t : Told T) (c : Book T) → Happens cap parties b e t c → c.queue.accepted ≡ counts_told accepted_by t b.queue.accepted
happens-accepted cap parties b e Skipped c h = ap (λ x. x.queue.accepted) h.1
happens-accepted cap parties b (Begin p k) (Ran None None) c h = ap (λ x. x.queue.accepted) h.2
happens-accepted cap parties b (Begin p k) (Ran None (Some r)) c h = ap (λ x. x.queue.accepted) h.3
happens-accepted cap parties b (Begin p k) (Ran (Some x) r) c h = absurd h
happens-accepted cap parties b (Step p granted) (Ran k r) c h = moves-accepted b.queue h.1.o k c.queue h.1.effects h.1.moves

happens-length : {T : Type 0} (cap : Option ℕ) (parties : ℕ) (b : Book T) (e : Event T) (t : Told T) (c : Book T) → Happens cap parties b e t c → length c.queue.items ≡ counts_told length_by t (length b.queue.items)
happens-length cap parties b e Skipped c h = ap (λ x. length x.queue.items) h.1
happens-length cap parties b (Begin p k) (Ran None None) c h = ap (λ x. length x.queue.items) h.2
happens-length cap parties b (Begin p k) (Ran None (Some r)) c h = ap (λ x. length x.queue.items) h.3
happens-length cap parties b (Begin p k) (Ran (Some x) r) c h = absurd h
happens-length cap parties b (Step p granted) (Ran k r) c h = moves-length b.queue h.1.o k c.queue h.1.effects h.1.moves

pub run-accepted : {T : Type 0} (cap : Option ℕ) (parties : ℕ) (b : Book T) (es : List (Event T)) (ts : List (Told T)) (c : Book T) → Run cap parties b es ts c → c.queue.accepted ≡ counts_all accepted_by ts b.queue.accepted
run-accepted cap parties b [] [] c run = ap (λ x. x.queue.accepted) run
run-accepted cap parties b (e ∷ es) (t ∷ ts) c run = run-accepted cap parties run.0 es ts c run.2 ∙ ap (counts_all accepted_by ts) (happens-accepted cap parties b e t run.0 run.1)
run-accepted cap parties b es ts c run = absurd run

pub run-length : {T : Type 0} (cap : Option ℕ) (parties : ℕ) (b : Book T) (es : List (Event T)) (ts : List (Told T)) (c : Book T) → Run cap parties b es ts c → length c.queue.items ≡ counts_all length_by ts (length b.queue.items)
run-length cap parties b [] [] c run = ap (λ x. length x.queue.items) run
run-length cap parties b (e ∷ es) (t ∷ ts) c run = run-length cap parties run.0 es ts c run.2 ∙ ap (counts_all length_by ts) (happens-length cap parties b e t run.0 run.1)
run-length cap parties b es ts c run = absurd run

-- so two runs of which the same is told end with as many accepted items, and span as many blocks
pub same-accepted : {T : Type 0} (cap : Option ℕ) (parties : ℕ) (es ds : List (Event T)) (ts : List (Told T)) (c d : Book T)
    → Run cap parties (opening cap) es ts c → Run cap parties (opening cap) ds ts d → c.queue.accepted ≡ d.queue.accepted
same-accepted cap parties es ds ts c d run other = run-accepted cap parties (opening cap) es ts c run ∙ sym (run-accepted cap parties (opening cap) ds ts d other)

pub same-blocks : {T : Type 0} (cap : Option ℕ) (parties : ℕ) (es ds : List (Event T)) (ts : List (Told T)) (c d : Book T)
    → Run cap parties (opening cap) es ts c → Run cap parties (opening cap) ds ts d → blocks_of c.queue ≡ blocks_of d.queue
same-blocks cap parties es ds ts c d run other =
    let a = same-accepted cap parties es ds ts c d run other in
    let n = run-length cap parties (opening cap) es ts c run ∙ sym (run-length cap parties (opening cap) ds ts d other) in
    let k = run-cap cap parties (opening cap) es ts c run ∙ sym (run-cap cap parties (opening cap) ds ts d other) in
    ap (λ o. spanned o c.queue.accepted (length c.queue.items)) k ∙ ap (λ m. spanned d.queue.cap m (length c.queue.items)) a ∙ ap (spanned d.queue.cap d.queue.accepted) n
