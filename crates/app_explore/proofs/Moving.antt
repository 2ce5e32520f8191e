-- The lines of a schedule, one by one.
use Rattle.std.proofs.Common.{◌≡◌, ◌∙◌, ℕ, zero, suc, ◌+◌, ◌-◌, ◌<◌, ◌≤◌, ◌⊎◌, nat_lt, inl, inr, Bool, true, false, cond, List, [], ◌∷◌, length, ◌++◌, append_assoc, drop, get_or, Err, Ok, OnOk, Result, refl, sym, ap, subst, arith}
use Rattle.std.proofs.lemmas.{Bool.ltb-true, Bool.ltb-false, List.at_drop_all, List.at_drop_more, List.length-drop}
use Rattle.std.specs.Fmt.{decimal}
use Rattle.app_text.specs.{Actions.action_text, Actions.replay_line_text, declared.actions.Action.Action as action, declared.actions.ReplayLine.ReplayLine}
use Rattle.queue_steps.specs.declared.sizes.TheConstants.{STEPS_ALONE}
use Rattle.machine_explore.specs.Traces.{Seen}
use Rattle.app_explore.specs.Schedules.{ends_call, party_of, plain_line, is_step_of, row_length, is_run, first_line, more_moves, lines_text, move_lines}

row_within : (k p : ℕ) (ts : List Seen) → row_length k p ts ≤ k + length ts
row_within k p [] = omega arith
row_within k p (t ∷ ts) = by_step (is_step_of p t.event) (ends_call t.told) (row_within (k + 1) p ts)
  where
    by_step : (s e : Bool) → row_length (k + 1) p ts ≤ k + 1 + length ts → cond s (cond e (k + 1) (row_length (k + 1) p ts)) 0 ≤ k + length (t ∷ ts)
    by_step true true rest = omega arith
    by_step true false rest = omega (arith, rest)
    by_step false e rest = omega arith

moves_behind : (k : ℕ) (ts : List Seen) → move_lines k ts ≡ move_lines 0 (drop k ts)
moves_behind zero [] = refl
moves_behind zero (t ∷ ts) = refl
moves_behind (suc k) [] = refl
moves_behind (suc k) (t ∷ ts) = moves_behind k ts

run_is : (n : ℕ) → 2 ≤ n → n ≤ STEPS_ALONE → is_run n ≡ true
run_is n two most = by_tests (nat_lt n 2) (nat_lt n (STEPS_ALONE + 1)) refl refl
  where
    by_tests : (a b : Bool) → nat_lt n 2 ≡ a → nat_lt n (STEPS_ALONE + 1) ≡ b → cond a false b ≡ true
    by_tests true b e f = let below = ltb-true n 2 e in absurd (omega (arith, below, two))
    by_tests false true e f = refl
    by_tests false false e f = let above = ltb-false n (STEPS_ALONE + 1) f in absurd (omega (arith, above, most))

plain_is : (n : ℕ) → (n < 2) ⊎ (STEPS_ALONE < n) → is_run n ≡ false
plain_is n other = by_tests (nat_lt n 2) (nat_lt n (STEPS_ALONE + 1)) refl refl other
  where
    by_tests : (a b : Bool) → nat_lt n 2 ≡ a → nat_lt n (STEPS_ALONE + 1) ≡ b → (n < 2) ⊎ (STEPS_ALONE < n) → cond a false b ≡ false
    by_tests true b e f h = refl
    by_tests false false e f h = refl
    by_tests false true e f (inl short) = let two = ltb-false n 2 e in absurd (omega (arith, two, short))
    by_tests false true e f (inr long) = let below = ltb-true n (STEPS_ALONE + 1) f in absurd (omega (arith, below, long))

drop_behind : {X : Type 0} (n : ℕ) (x : X) (xs : List X) → 0 < n → drop (n - 1) xs ≡ drop n (x ∷ xs)
drop_behind zero x xs some = absurd (omega (arith, some))
drop_behind (suc m) x xs some = let e : suc m - 1 ≡ m = omega arith in ap (λ i. drop i xs) e

-- the first line of these moves is for so many of them
abbrev pub IsFirst : List Seen → ReplayLine → ℕ → Type 0
IsFirst moves line n = (0 < n) × (n ≤ length moves) × (move_lines 0 moves ≡ line ∷ move_lines 0 (drop n moves))

-- a row that ends a call
pub first_is_run : (moves : List Seen) (t : Seen) (n : ℕ) → 0 < length moves → t ≡ get_or moves 0 t → n ≡ row_length 0 (party_of t.event) moves → 2 ≤ n → n ≤ STEPS_ALONE → IsFirst moves (record { party = party_of t.event; action = action.Run }) n
first_is_run [] t n some is row two most = absurd (omega (arith, some))
first_is_run (s ∷ ss) t n some is row two most = subst {A = Seen} (λ u. n ≡ row_length 0 (party_of u.event) (s ∷ ss) → IsFirst (s ∷ ss) (record { party = party_of u.event; action = action.Run }) n) (sym is) here row
  where
    here : n ≡ row_length 0 (party_of s.event) (s ∷ ss) → IsFirst (s ∷ ss) (record { party = party_of s.event; action = action.Run }) n
    here length_is =
        let within = row_within 0 (party_of s.event) (s ∷ ss) in
        let run = run_is n two most in
        let first : first_line s.event n ≡ record { party = party_of s.event; action = action.Run } = ap (λ b. cond b (record { party = party_of s.event; action = action.Run }) (plain_line s.event)) run in
        let more : more_moves n ≡ n - 1 = ap (λ b. cond b (n - 1) 0) run in
        let lines : first_line s.event n ∷ move_lines (more_moves n) ss ≡ record { party = party_of s.event; action = action.Run } ∷ move_lines 0 (drop n (s ∷ ss))
        = cc (first, ap (λ k. move_lines k ss) more ∙ moves_behind (n - 1) ss ∙ ap (move_lines 0) (drop_behind n s ss (omega (arith, two)))) in
        (omega (arith, two), omega (arith, within, length_is), subst {A = ℕ} (λ m. first_line s.event m ∷ move_lines (more_moves m) ss ≡ record { party = party_of s.event; action = action.Run } ∷ move_lines 0 (drop n (s ∷ ss))) length_is lines)

-- any other move
pub first_is_plain : (moves : List Seen) (t : Seen) (n : ℕ) → 0 < length moves → t ≡ get_or moves 0 t → n ≡ row_length 0 (party_of t.event) moves → (n < 2) ⊎ (STEPS_ALONE < n) → IsFirst moves (plain_line t.event) 1
first_is_plain [] t n some is row other = absurd (omega (arith, some))
first_is_plain (s ∷ ss) t n some is row other = subst {A = Seen} (λ u. n ≡ row_length 0 (party_of u.event) (s ∷ ss) → IsFirst (s ∷ ss) (plain_line u.event) 1) (sym is) here row
  where
    here : n ≡ row_length 0 (party_of s.event) (s ∷ ss) → IsFirst (s ∷ ss) (plain_line s.event) 1
    here length_is =
        let plain = plain_is n other in
        let first : first_line s.event n ≡ plain_line s.event = ap (λ b. cond b (record { party = party_of s.event; action = action.Run }) (plain_line s.event)) plain in
        let more : more_moves n ≡ 0 = ap (λ b. cond b (n - 1) 0) plain in
        let lines : first_line s.event n ∷ move_lines (more_moves n) ss ≡ plain_line s.event ∷ move_lines 0 ss = cc (first, ap (λ k. move_lines k ss) more) in
        (omega arith, omega arith, subst {A = ℕ} (λ m. first_line s.event m ∷ move_lines (more_moves m) ss ≡ plain_line s.event ∷ move_lines 0 ss) length_is lines)

-- of the moves that are left the first takes the row to its end, goes on with it, or is none of it
module _ (p i : ℕ) (ts : List Seen) (t : Seen) (inside : i < length ts) (is : t ≡ get_or ts i t) where
  row_at : row_length i p (drop i ts) ≡ cond (is_step_of p t.event) (cond (ends_call t.told) (i + 1) (row_length (i + 1) p (drop (i + 1) ts))) 0
  row_at = at_drop_more (row_length i p) ts i t inside ∙ ap (λ (s : Seen). row_length i p (s ∷ drop (i + 1) ts)) (sym is)

  pub row_goes_on : is_step_of p t.event ≡ true → ends_call t.told ≡ false → row_length i p (drop i ts) ≡ row_length (i + 1) p (drop (i + 1) ts)
  row_goes_on step on = row_at ∙ ap (λ b. cond b (cond (ends_call t.told) (i + 1) (row_length (i + 1) p (drop (i + 1) ts))) 0) step ∙ ap (λ b. cond b (i + 1) (row_length (i + 1) p (drop (i + 1) ts))) on

  pub row_ends : is_step_of p t.event ≡ true → ends_call t.told ≡ true → row_length i p (drop i ts) ≡ i + 1
  row_ends step ends = row_at ∙ ap (λ b. cond b (cond (ends_call t.told) (i + 1) (row_length (i + 1) p (drop (i + 1) ts))) 0) step ∙ ap (λ b. cond b (i + 1) (row_length (i + 1) p (drop (i + 1) ts))) ends

  pub row_stops : is_step_of p t.event ≡ false → row_length i p (drop i ts) ≡ 0
  row_stops other = row_at ∙ ap (λ b. cond b (cond (ends_call t.told) (i + 1) (row_length (i + 1) p (drop (i + 1) ts))) 0) other

-- behind the last move there is no row
pub row_past : (p i : ℕ) (ts : List Seen) → length ts ≤ i → row_length i p (drop i ts) ≡ 0
row_past p i ts past = at_drop_all (row_length i p) ts i past

-- one line more is written
pub line_more : (line : ReplayLine) (n : ℕ) (rest behind : List Seen) (start old new : List ℕ) → old ++ lines_text (move_lines 0 rest) ≡ start → move_lines 0 rest ≡ line ∷ move_lines 0 (drop n rest) → behind ≡ drop n rest
    → new ≡ old ++ replay_line_text line ++ 10 ∷ [] → new ++ lines_text (move_lines 0 behind) ≡ start
line_more line n rest behind start old new before first behind_is wrote =
    let text : List ℕ = replay_line_text line ++ 10 ∷ [] in
    let left : List ℕ = lines_text (move_lines 0 (drop n rest)) in
    ap (λ l. new ++ lines_text (move_lines 0 l)) behind_is ∙ ap (λ l. l ++ left) (wrote ∙ append_assoc old (replay_line_text line) (10 ∷ [])) ∙ append_assoc old text left
    ∙ ap (λ ls. old ++ lines_text ls) (sym first) ∙ before

-- behind one move or more fewer are left
pub fewer_left : (n : ℕ) (rest behind : List Seen) → 0 < n → n ≤ length rest → behind ≡ drop n rest → length behind < length rest
fewer_left n rest behind some most behind_is = let left = ap length behind_is ∙ length-drop n rest in omega (arith, left, some, most)

-- a line is written, where the word is what its party does
pub line_written : {E : Type 0} (r : Result Unit E) (line : ReplayLine) (word start new : List ℕ) → action_text line.action ≡ word → OnOk r (new ≡ start ++ (decimal line.party ++ 32 ∷ (word ++ 10 ∷ []))) → OnOk r (new ≡ start ++ replay_line_text line ++ 10 ∷ [])
line_written (Ok u) line word start new is wrote =
    let number = decimal line.party in
    let does = action_text line.action in
    wrote ∙ ap (λ w. start ++ (number ++ 32 ∷ (w ++ 10 ∷ []))) (sym is) ∙ ap (λ l. start ++ l) (sym (append_assoc number (32 ∷ does) (10 ∷ []))) ∙ sym (append_assoc start (number ++ 32 ∷ does) (10 ∷ []))
line_written (Err e) line word start new is wrote = tt
