-- What the effects keep, and what the one-owner table keeps.
use Rattle.std.specs.Prelude.{◌≡◌, ◌⊎◌, ℕ, ◌+◌, ◌-◌, ◌≤◌, Bool, true, false, not, ◌&&◌, ◌==◌, List, [], ◌∷◌, ◌++◌, length, Option, Some, None, if◌then◌else◌, nat_eq}
use Rattle.std.proofs.Common.{refl, inl, inr, ap, ◌∙◌, arith, length-append}
use Rattle.queue_steps.specs.declared.{sizes.TheConstants.LIMIT, model.Effect.Effect, model.Effect.Effect as effect, model.Call.Call, model.Call.Call as call}
use Rattle.queue_steps.specs.{State.State, State.start, State.is_slot_cap, State.fills, State.is_full, Laws.StaysClosed, Laws.StaysWithin, Legal.IsSound, Legal.IsWithin, Legal.KeepsSound, Effect.Fits, Effect.made, Effect.rest, Effect.with_coming, Effect.Runs, Effect.after_from}
use Rattle.queue_steps.proofs.TableCases.{table_cases}
use Rattle.queue_steps.specs.Sequential.{Owned, HoldsBlocks, moved, spanned, blocks_of, sequential_state, is_spent, shut, appended, displaced}

closed-made : {T : Type 0} (e : Effect T) (Q : State T) → Fits e Q → Q.closed ≡ true → (made e Q).closed ≡ true
closed-made (effect.Append v) Q f h = h
closed-made (effect.Take v) Q f h = h
closed-made (effect.Replace old v) Q f h = h
closed-made (effect.Front old v) Q f h = h
closed-made effect.Arrive Q f h = h
closed-made effect.Close Q f h = refl
closed-made effect.SelfClose Q f h = refl

pub stays_closed : {T : Type 0} → StaysClosed T
stays_closed Q [] r h = h
stays_closed Q (e ∷ es) r h = stays_closed (made e Q) es r.1 (closed-made e Q r.0 h)

-- how many items are on their way in
abbrev many : {T : Type 0} → Option T → ℕ
many None = 0
many (Some v) = 1

-- the list, with the item on its way in, is no longer than the capacity
record Fitting {T : Type 0} (c : ℕ) (Q : State T) : Type 0 where
  capped : Q.cap ≡ Some c
  room : length Q.items + many Q.coming ≤ c

length-rest : {T : Type 0} (xs : List T) → length (rest xs) ≤ length xs
length-rest [] = omega arith
length-rest (x ∷ xs) = omega arith

length-with_coming : {T : Type 0} (xs : List T) (o : Option T) → length (with_coming xs o) ≡ length xs + many o
length-with_coming xs None = omega arith
length-with_coming xs (Some v) = length-append xs (v ∷ [])

not_full : (c n : ℕ) → nat_eq n c ≡ false → n ≤ c → n + 1 ≤ c
not_full c n e h = grind arith

fitting-made : {T : Type 0} (c : ℕ) (e : Effect T) (Q : State T) → Fits e Q → Fitting c Q → Fitting c (made e Q)
fitting-made c (effect.Append v) Q f h =
    let none : many Q.coming ≡ 0 = ap many f.1 in
    let room = h.room in
    let free : nat_eq (length Q.items) c ≡ false = rw h.capped at f.2 in
    record { capped = h.capped; room = rw (length-append Q.items (v ∷ []), none) (let k = not_full c (length Q.items) free (omega arith) in omega arith) }
fitting-made c (effect.Take v) Q f h = record { capped = h.capped; room = let room = h.room in omega (arith, length-rest Q.items) }
fitting-made c (effect.Replace old v) Q f h =
    let room = h.room in
    let one : length Q.items ≡ 1 = ap length f.2 in
    record { capped = h.capped; room = omega arith }
fitting-made c (effect.Front old v) Q f h =
    let none : many Q.coming ≡ 0 = ap many f.2 in
    let room = h.room in
    let items = f.4.1 in
    let long : length Q.items ≡ length f.4.0 + 1 = ap length items ∙ omega arith in
    let left : length (rest Q.items) ≡ length f.4.0 = ap (λ xs. length (rest xs)) items in
    record { capped = h.capped; room = omega arith }
fitting-made c effect.Arrive Q f h = record { capped = h.capped; room = let room = h.room in omega (arith, length-with_coming Q.items Q.coming) }
fitting-made c effect.Close Q f h = record { capped = h.capped; room = h.room }
fitting-made c effect.SelfClose Q f h = record { capped = h.capped; room = h.room }

fitting-after : {T : Type 0} (c : ℕ) (Q : State T) (es : List (Effect T)) → Runs Q es → Fitting c Q → Fitting c (after_from Q es)
fitting-after c Q [] r h = h
fitting-after c Q (e ∷ es) r h = fitting-after c (made e Q) es r.1 (fitting-made c e Q r.0 h)

pub stays_within : {T : Type 0} → StaysWithin T
stays_within {T} c es r =
    let first : Fitting {T = T} c (start (Some c) 0) = record { capped = refl; room = omega arith } in
    let h = fitting-after c (start (Some c) 0) es r first in
    let room = h.room in
    (h.capped, omega arith)

-- one item more in a queue that is not full, and one in the place of another in one that is
within-append : {T : Type 0} (c : Option ℕ) (xs : List T) (v : T) → fills c (length xs) ≡ false → IsWithin c (length xs) → IsWithin c (length (xs ++ v ∷ []))
within-append None xs v e h = tt
within-append (Some c) xs v e h = (h.0, rw (length-append xs (v ∷ [])) (let k = not_full c (length xs) e h.1 in omega arith))

within-displace : {T : Type 0} (c : Option ℕ) (xs : List T) (v : T) → fills c (length xs) ≡ true → IsWithin c (length xs) → IsWithin c (length (rest xs ++ v ∷ []))
within-displace None xs v e h = tt
within-displace (Some c) [] v e h = (h.0, let k = h.0 in omega arith)
within-displace (Some c) (x ∷ xs) v e h = (h.0, let k = h.1 in rw (length-append xs (v ∷ [])) (omega arith))

within-rest : {T : Type 0} (c : Option ℕ) (xs : List T) → IsWithin c (length xs) → IsWithin c (length (rest xs))
within-rest None xs h = tt
within-rest (Some c) xs h = (h.0, let k = h.1 in omega (arith, length-rest xs))

counted-up : (single : Bool) (n : ℕ) → (not single && (n == LIMIT)) ≡ false → (single ≡ true) ⊎ (n ≤ LIMIT) → (single ≡ true) ⊎ ((if single then n else n + 1) ≤ LIMIT)
counted-up true n e s = inl refl
counted-up false n e (inl h) = inl h
counted-up false n e (inr h) = inr (grind arith)

shut-sound : {T : Type 0} (Q : State T) → IsSound Q → IsSound (shut Q)
shut-sound Q s = record { none_coming = s.none_coming; within = s.within; counted = s.counted }

appended-sound : {T : Type 0} (Q : State T) (v : T) → IsSound Q → is_spent Q ≡ false → is_full Q ≡ false → IsSound (appended Q v)
appended-sound Q v s e2 e3 = record { none_coming = s.none_coming; within = within-append Q.cap Q.items v e3 s.within; counted = counted-up (is_slot_cap Q.cap) Q.accepted e2 s.counted }

displaced-sound : {T : Type 0} (Q : State T) (v : T) → IsSound Q → is_spent Q ≡ false → is_full Q ≡ true → IsSound (displaced Q v)
displaced-sound Q v s e2 e3 = record { none_coming = s.none_coming; within = within-displace Q.cap Q.items v e3 s.within; counted = counted-up (is_slot_cap Q.cap) Q.accepted e2 s.counted }

sound-state : {T : Type 0} (Q : State T) (c : Call T) → IsSound Q → IsSound (sequential_state Q c)
sound-state Q (call.Push v) s = table_cases (λ l. IsSound l.1) Q _ _ _ _ (λ e1. s) (λ e1 e2. shut-sound Q s) (λ e1 e2 e3. s) (λ e1 e2 e3. appended-sound Q v s e2 e3)
sound-state Q (call.ForcePush v) s =
    table_cases (λ l. IsSound l.1) Q _ _ _ _ (λ e1. s) (λ e1 e2. shut-sound Q s) (λ e1 e2 e3. displaced-sound Q v s e2 e3) (λ e1 e2 e3. appended-sound Q v s e2 e3)
sound-state Q call.Pop s = record { none_coming = s.none_coming; within = within-rest Q.cap Q.items s.within; counted = s.counted }
sound-state Q call.Close s = shut-sound Q s
sound-state Q look s = s

is_zero : (m : ℕ) → (m == 0) ≡ true → m ≡ 0
is_zero m e = grind arith

-- a call changes no capacity
cap-sequential : {T : Type 0} (Q : State T) (c : Call T) → (sequential_state Q c).cap ≡ Q.cap
cap-sequential Q (call.Push v) = table_cases (λ l. l.1.cap ≡ Q.cap) Q _ _ _ _ (λ e1. refl) (λ e1 e2. refl) (λ e1 e2 e3. refl) (λ e1 e2 e3. refl)
cap-sequential Q (call.ForcePush v) = table_cases (λ l. l.1.cap ≡ Q.cap) Q _ _ _ _ (λ e1. refl) (λ e1 e2. refl) (λ e1 e2 e3. refl) (λ e1 e2 e3. refl)
cap-sequential Q c = refl

-- nor is anything on its way in after it that was not before
pub coming-sequential : {T : Type 0} (Q : State T) (c : Call T) → (sequential_state Q c).coming ≡ Q.coming
coming-sequential Q (call.Push v) = table_cases (λ l. l.1.coming ≡ Q.coming) Q _ _ _ _ (λ e1. refl) (λ e1 e2. refl) (λ e1 e2 e3. refl) (λ e1 e2 e3. refl)
coming-sequential Q (call.ForcePush v) = table_cases (λ l. l.1.coming ≡ Q.coming) Q _ _ _ _ (λ e1. refl) (λ e1 e2. refl) (λ e1 e2 e3. refl) (λ e1 e2 e3. refl)
coming-sequential Q c = refl

counted-zero : (single : Bool) (n : ℕ) → (if single then n else n + 1) ≡ 0 → n ≡ 0
counted-zero true n e = e
counted-zero false n e = omega arith

-- a queue that has accepted nothing had accepted nothing before the call
zero-sequential : {T : Type 0} (Q : State T) (c : Call T) → (sequential_state Q c).accepted ≡ 0 → Q.accepted ≡ 0
zero-sequential Q (call.Push v) e =
    table_cases (λ l. l.1.accepted ≡ 0 → Q.accepted ≡ 0) Q _ _ _ _ (λ e1 e. e) (λ e1 e2 e. e) (λ e1 e2 e3 e. e) (λ e1 e2 e3. counted-zero (is_slot_cap Q.cap) Q.accepted) e
zero-sequential Q (call.ForcePush v) e =
    table_cases (λ l. l.1.accepted ≡ 0 → Q.accepted ≡ 0) Q _ _ _ _ (λ e1 e. e) (λ e1 e2 e. e) (λ e1 e2 e3. counted-zero (is_slot_cap Q.cap) Q.accepted) (λ e1 e2 e3. counted-zero (is_slot_cap Q.cap) Q.accepted) e
zero-sequential Q c e = e

-- while nothing was accepted, the span does not depend on the list
spanned-zero : (c : Option ℕ) (m n : ℕ) → spanned c 0 m ≡ spanned c 0 n
spanned-zero None m n = let l : 0 - m ≡ 0 = omega arith in let r : 0 - n ≡ 0 = omega arith in rw (l, r) refl
spanned-zero (Some c) m n = refl

moved-holds : {T : Type 0} (P : Owned T) (Q : State T) → Q.cap ≡ P.queue.cap → (Q.accepted ≡ 0 → P.queue.accepted ≡ 0) → HoldsBlocks P → HoldsBlocks (moved P Q)
moved-holds {T} P Q same before h = go (Q.accepted == 0) refl
  where
    zero : Q.accepted ≡ 0 → HoldsBlocks P → (P.blocks ≡ blocks_of Q) ⊎ ((P.blocks ≡ 0) × (Q.accepted ≡ 0))
    zero e (inl k) =
        let n = before e in
        let old : spanned P.queue.cap P.queue.accepted (length P.queue.items) ≡ spanned P.queue.cap 0 (length P.queue.items) = rw n refl in
        inl (k ∙ (old ∙ rw (e, same) (spanned-zero P.queue.cap (length P.queue.items) (length Q.items))))
    zero e (inr k) = inr (k.0, e)

    go : (t : Bool) → (Q.accepted == 0) ≡ t → ((if t then P.blocks else blocks_of Q) ≡ blocks_of Q) ⊎ (((if t then P.blocks else blocks_of Q) ≡ 0) × (Q.accepted ≡ 0))
    go true e = zero (is_zero Q.accepted e) h
    go false e = inl refl

pub keeps_sound : {T : Type 0} → KeepsSound T
keeps_sound P R c r s (inl h) = rw h.1 (sound-state P.queue c s.0, moved-holds P (sequential_state P.queue c) (cap-sequential P.queue c) (zero-sequential P.queue c) s.1)
keeps_sound P R c r s (inr h) = rw h.2 s
