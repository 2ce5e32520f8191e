-- The list grows by one item an event at most, and the capacity stays.
use Rattle.std.proofs.Common.{◌≡◌, ◌∙◌, ℕ, ◌+◌, ◌≤◌, Option, Some, None, List, [], ◌∷◌, length, ap, arith, length-append}
use Rattle.queue_steps.specs.{State.State, Effect.made, Effect.rest, Effect.with_coming}
use Rattle.machine_replay.specs.{Vocabulary.Effect, Vocabulary.Event, Vocabulary.Told, Vocabulary.EffectKind, Vocabulary.Begin, Vocabulary.Step, Vocabulary.Skipped, Vocabulary.Ran, Book.Book, Book.Open, Book.Moves, Book.Happens, Book.Run}
use Rattle.queue_laws.proofs.Common.Runs.{cap_made}

length-rest : {T : Type 0} (xs : List T) → length (rest xs) ≤ length xs
length-rest [] = omega arith
length-rest (x ∷ xs) = omega arith

length-coming : {T : Type 0} (xs : List T) (o : Option T) → length (with_coming xs o) ≤ length xs + 1
length-coming xs None = omega arith
length-coming xs (Some v) = omega (arith, length-append xs (v ∷ []))

made-grows : {T : Type 0} (e : Effect T) (Q : State T) → length (made e Q).items ≤ length Q.items + 1
made-grows (Effect.Append v) Q = omega (arith, length-append Q.items (v ∷ []))
made-grows (Effect.Take v) Q = omega (arith, length-rest Q.items)
made-grows (Effect.Front old v) Q = omega (arith, length-rest Q.items)
made-grows Effect.Arrive Q = length-coming Q.items Q.coming
made-grows e Q = omega arith

moves-grows : {T : Type 0} (Q : State T) (o : Open T) (k : Option EffectKind) (R : State T) (es : List (Effect T)) → Moves Q o k R es → length R.items ≤ length Q.items + 1
moves-grows Q o None R es m = let e : length R.items ≡ length Q.items = ap (λ q. length q.items) m.0 in omega arith
moves-grows Q o (Some k) R es m = let e : length R.items ≡ length (made m.0 Q).items = ap (λ q. length q.items) m.4 in omega (arith, made-grows m.0 Q)

pub happens-grows : {T : Type 0} (cap : Option ℕ) (parties : ℕ) (b : Book T) (e : Event T) (t : Told T) (c : Book T) → Happens cap parties b e t c → length c.queue.items ≤ length b.queue.items + 1
happens-grows cap parties b e Skipped c h = let s : length c.queue.items ≡ length b.queue.items = ap (λ x. length x.queue.items) h.1 in omega arith
happens-grows cap parties b (Begin p k) (Ran None None) c h = let s : length c.queue.items ≡ length b.queue.items = ap (λ x. length x.queue.items) h.2 in omega arith
happens-grows cap parties b (Begin p k) (Ran None (Some r)) c h = let s : length c.queue.items ≡ length b.queue.items = ap (λ x. length x.queue.items) h.3 in omega arith
happens-grows cap parties b (Begin p k) (Ran (Some x) r) c h = absurd h
happens-grows cap parties b (Step p granted) (Ran k r) c h = moves-grows b.queue h.1.o k c.queue h.1.effects h.1.moves

pub run-grows : {T : Type 0} (cap : Option ℕ) (parties : ℕ) (b : Book T) (es : List (Event T)) (ts : List (Told T)) (c : Book T) → Run cap parties b es ts c → length c.queue.items ≤ length b.queue.items + length es
run-grows cap parties b [] [] c run = let s : length c.queue.items ≡ length b.queue.items = ap (λ x. length x.queue.items) run in omega arith
run-grows cap parties b (e ∷ es) (t ∷ ts) c run = omega (arith, happens-grows cap parties b e t run.0 run.1, run-grows cap parties run.0 es ts c run.2)
run-grows cap parties b es ts c run = absurd run

moves-cap : {T : Type 0} (Q : State T) (o : Open T) (k : Option EffectKind) (R : State T) (es : List (Effect T)) → Moves Q o k R es → R.cap ≡ Q.cap
moves-cap Q o None R es m = ap (λ q. q.cap) m.0
moves-cap Q o (Some k) R es m = ap (λ q. q.cap) m.4 ∙ cap_made m.0 Q

happens-cap : {T : Type 0} (cap : Option ℕ) (parties : ℕ) (b : Book T) (e : Event T) (t : Told T) (c : Book T) → Happens cap parties b e t c → c.queue.cap ≡ b.queue.cap
happens-cap cap parties b e Skipped c h = ap (λ x. x.queue.cap) h.1
happens-cap cap parties b (Begin p k) (Ran None None) c h = ap (λ x. x.queue.cap) h.2
happens-cap cap parties b (Begin p k) (Ran None (Some r)) c h = ap (λ x. x.queue.cap) h.3
happens-cap cap parties b (Begin p k) (Ran (Some x) r) c h = absurd h
happens-cap cap parties b (Step p granted) (Ran k r) c h = moves-cap b.queue h.1.o k c.queue h.1.effects h.1.moves

-- no event changes the capacity
pub run-cap : {T : Type 0} (cap : Option ℕ) (parties : ℕ) (b : Book T) (es : List (Event T)) (ts : List (Told T)) (c : Book T) → Run cap parties b es ts c → c.queue.cap ≡ b.queue.cap
run-cap cap parties b [] [] c run = ap (λ x. x.queue.cap) run
run-cap cap parties b (e ∷ es) (t ∷ ts) c run = run-cap cap parties run.0 es ts c run.2 ∙ happens-cap cap parties b e t run.0 run.1
run-cap cap parties b es ts c run = absurd run
