-- The lines of a schedule make its moves.
use Rattle.std.proofs.Common.{◌≡◌, ℕ, zero, suc, ◌+◌, ◌-◌, ◌<◌, ◌≤◌, nat_lt, Bool, true, false, cond, List, [], ◌∷◌, take, drop, refl, sym, ap, subst, arith}
use Rattle.std.proofs.lemmas.{Bool.eqb-true, Bool.ltb-true, Bool.ltb-false, List.take-append-drop}
use Rattle.queue_steps.specs.declared.sizes.TheConstants.{STEPS_ALONE}
use Rattle.machine_memory.specs.declared.types.Event.{Event, TheVariants.Begin, TheVariants.Step}
use Rattle.app_text.specs.declared.actions.{Action.Action as action, ReplayLine.ReplayLine}
use Rattle.machine_explore.specs.Traces.{Seen}
use Rattle.app_explore.specs.Schedules.{ends_call, party_of, plain_line, is_step_of, row_length, is_run, more_moves, move_lines, IsRow, Makes, MakeAll}

step_is : (p : ℕ) (e : Event ℕ) → is_step_of p e ≡ true → e ≡ Step p true
step_is p (Begin q c) h = cc (h)
step_is p (Step q true) h = let same : q ≡ p = eqb-true q p h in ap (λ x. Step x true) same
step_is p (Step q false) h = cc (h)

-- the first moves are a row of j steps, and with k before them it is n steps long
record Row (k p n : ℕ) (ts : List Seen) : Type 0 where
  pub j : ℕ
  pub sum : n ≡ k + j
  pub row : IsRow p j (take j ts)

row_one : (k p n : ℕ) (t : Seen) (ts : List Seen) → t.event ≡ Step p true → ends_call t.told ≡ true → k + 1 ≡ n → Row k p n (t ∷ ts)
row_one k p n t ts step ends sum = record {
  j = 1;
  sum = sym sum;
  row = record { others = 0; count = refl; steps = ap (λ e. e ∷ []) step; ends = ap (λ b. b ∷ []) ends };
}

row_more : (k p n : ℕ) (t : Seen) (ts : List Seen) → t.event ≡ Step p true → ends_call t.told ≡ false → Row (k + 1) p n ts → Row k p n (t ∷ ts)
row_more k p n t ts step ends r = record {
  j = suc r.j;
  sum = let sum = r.sum in omega (arith, sum);
  row = record {
    others = suc r.row.others;
    count = let count = r.row.count in omega (arith, count);
    steps = cc (step, r.row.steps);
    ends = cc (ends, r.row.ends);
  };
}

row_is : (k p n : ℕ) (ts : List Seen) → row_length k p ts ≡ n → 0 < n → Row k p n ts
row_is k p n [] is some = absurd (omega (arith, is, some))
row_is k p n (t ∷ ts) is some = by_step (is_step_of p t.event) (ends_call t.told) refl refl is (λ rest. row_is (k + 1) p n ts rest some)
  where
    by_step : (s e : Bool) → is_step_of p t.event ≡ s → ends_call t.told ≡ e → cond s (cond e (k + 1) (row_length (k + 1) p ts)) 0 ≡ n → (row_length (k + 1) p ts ≡ n → Row (k + 1) p n ts) → Row k p n (t ∷ ts)
    by_step true true a b h more = row_one k p n t ts (step_is p t.event a) b h
    by_step true false a b h more = row_more k p n t ts (step_is p t.event a) b (more h)
    by_step false e a b h more = absurd (omega (arith, h, some))

run_bounds : (n : ℕ) → is_run n ≡ true → (2 ≤ n) × (n ≤ STEPS_ALONE)
run_bounds n run = by_tests (nat_lt n 2) (nat_lt n (STEPS_ALONE + 1)) refl refl run
  where
    by_tests : (a b : Bool) → nat_lt n 2 ≡ a → nat_lt n (STEPS_ALONE + 1) ≡ b → cond a false b ≡ true → (2 ≤ n) × (n ≤ STEPS_ALONE)
    by_tests true b e f h = cc (h)
    by_tests false false e f h = cc (h)
    by_tests false true e f h = let two = ltb-false n 2 e in let below = ltb-true n (STEPS_ALONE + 1) f in (two, omega (arith, below))

plain_makes : (e : Event ℕ) (t : Seen) → t.event ≡ e → Makes (plain_line e).party (plain_line e).action (t ∷ [])
plain_makes (Begin p c) t is = ap (λ e. e ∷ []) is
plain_makes (Step p true) t is = ap (λ e. e ∷ []) is
plain_makes (Step p false) t is = ap (λ e. e ∷ []) is

take_behind : {X : Type 0} (n : ℕ) (x : X) (xs : List X) → 0 < n → take n (x ∷ xs) ≡ x ∷ take (n - 1) xs
take_behind zero x xs some = absurd (omega (arith, some))
take_behind (suc m) x xs some = let e : m ≡ suc m - 1 = omega arith in ap (λ i. x ∷ take i xs) e

-- the first line makes the moves that it is for
first_makes : (t : Seen) (ts : List Seen) (n : ℕ) (b : Bool) → row_length 0 (party_of t.event) (t ∷ ts) ≡ n → is_run n ≡ b
    → let line : ReplayLine = cond b (record { party = party_of t.event; action = action.Run }) (plain_line t.event) in Makes line.party line.action (t ∷ take (cond b (n - 1) 0) ts)
first_makes t ts n true is run =
    let bounds = run_bounds n run in
    let r = row_is 0 (party_of t.event) n (t ∷ ts) is (omega (arith, bounds.0)) in
    let j : r.j ≡ n = let sum = r.sum in omega (arith, sum) in
    let row = subst {A = ℕ} (λ i. IsRow (party_of t.event) i (take i (t ∷ ts))) j r.row in
    (n, bounds.0, bounds.1, subst {A = List Seen} (IsRow (party_of t.event) n) (take_behind n t ts (omega (arith, bounds.0))) row)
first_makes t ts n false is run = plain_makes t.event t refl

-- the lines of moves make them
pub lines_make : (k : ℕ) (ts : List Seen) → MakeAll (move_lines k ts) (drop k ts)
lines_make zero [] = refl
lines_make (suc k) [] = refl
lines_make (suc k) (t ∷ ts) = lines_make k ts
lines_make zero (t ∷ ts) =
    let n : ℕ = row_length 0 (party_of t.event) (t ∷ ts) in
    (t ∷ take (more_moves n) ts, drop (more_moves n) ts, ap (λ l. t ∷ l) (sym (take-append-drop (more_moves n) ts)), first_makes t ts n (is_run n) refl refl, lines_make (more_moves n) ts)
