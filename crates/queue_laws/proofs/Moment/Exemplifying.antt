-- The examples hold.
use Rattle.std.proofs.Common.{◌≡◌, ℕ, ◌+◌, ◌<◌, nat_lt, if◌then◌else◌, true, false, List, [], ◌∷◌, length, Some, None, Ok, Err, refl, ap, sym, ◌∙◌, inl, inr, arith}
use Rattle.queue_laws.specs.Moment.{Moments.IsAtOnce, Moments.RunsAtOnce, Entries.state_before, Shared.settled_history, Examples.filled, Examples.displacing, Examples.NoOrder, Examples.Examples}
use Rattle.queue_laws.specs.Common.Vocabulary.{Call, Reply, Effect, PushError, ForcePushError}
use Rattle.queue_steps.specs.{State.State, State.start, Effect.Runs, Effect.IsHistory, Effect.after, Replies.Allows, Replies.LacksMemory, Sequential.Owned, Sequential.fresh, Sequential.Sequential, Sequential.sequential_reply, Sequential.sequential_state}

-- the ring with 1 and 2 in it
abbrev full : State ℕ
full = after (Some 2) (Effect.Append 1 ∷ Effect.Append 2 ∷ [])

filled_runs : (es : List (Effect ℕ)) → Runs full es → IsHistory (Some 2) (filled es)
filled_runs es r = ((refl, refl, refl, inr (omega arith)), ((refl, refl, refl, inr (omega arith)), r))

filled_at_once : (es : List (Effect ℕ)) → RunsAtOnce full es → IsAtOnce (Some 2) (filled es)
filled_at_once es r = ((refl, refl, refl, inr (omega arith)), ((refl, refl, refl, inr (omega arith)), r))

-- two displacements behind a close, and before it
abbrev twice : List (Effect ℕ)
twice = Effect.Close ∷ Effect.Front 1 3 ∷ Effect.Arrive ∷ Effect.Front 2 4 ∷ Effect.Arrive ∷ Effect.Take 3 ∷ []

abbrev twice_settled : List (Effect ℕ)
twice_settled = Effect.Front 1 3 ∷ Effect.Arrive ∷ Effect.Front 2 4 ∷ Effect.Arrive ∷ Effect.Close ∷ Effect.Take 3 ∷ []

two_displace : RunsAtOnce full twice_settled
two_displace =
    (refl, (refl, refl, refl, inr (omega arith), (2 ∷ [], refl)), (refl, (refl, refl, refl, inr (omega arith), (3 ∷ [], refl)), (refl, ((4 ∷ [], refl), tt))))

closing_runs : Runs full twice
closing_runs =
    (refl, ((refl, refl, refl, inr (omega arith), (2 ∷ [], refl)), ((3, refl), ((refl, refl, refl, inr (omega arith), (3 ∷ [], refl)), ((4, refl), ((4 ∷ [], refl), tt))))))

-- `len` is 2 where the list has two items
len_two : (Q : State ℕ) → length Q.items ≡ 2 → Allows Call.Len (Reply.Len 1) Q → ⊥
len_two Q two (inl one) = omega (arith, two, one)
len_two Q two (inr lacks) = absurd lacks

-- a queue with a capacity lacks no memory
lacks_none : (Q : State ℕ) (c : Call ℕ) (r : Reply ℕ) → LacksMemory Q c r → Q.cap ≡ None
lacks_none Q (Call.Push v) (Reply.Push (Err (PushError.NoMemory w))) h = h.1.0
lacks_none Q (Call.ForcePush v) (Reply.ForcePush (Err (ForcePushError.NoMemory w))) h = h.1.0
lacks_none Q _ _ h = absurd h

in_table : (P R : Owned ℕ) (Q : State ℕ) (c : Call ℕ) (r : Reply ℕ) → P.queue ≡ Q → Q.cap ≡ Some 2 → Sequential P c r R → (r ≡ sequential_reply Q c) × (R.queue ≡ sequential_state Q c)
in_table P R Q c r is two (inl line) = (line.0 ∙ ap (λ (S : State ℕ). sequential_reply S c) is, ap (λ (S : Owned ℕ). S.queue) line.1 ∙ ap (λ (S : State ℕ). sequential_state S c) is)
in_table P R Q c r is two (inr lacks) = absurd (let no : Some 2 ≡ None = sym two ∙ (ap (λ (S : State ℕ). S.cap) (sym is) ∙ lacks_none P.queue c r lacks.0) in cc)

fills_up : (P M : Owned ℕ) → Sequential (fresh (Some 2)) (Call.Push 1) (Reply.Push (Ok tt)) P → Sequential P (Call.Push 2) (Reply.Push (Ok tt)) M → M.queue ≡ full
fills_up P M one two =
    (in_table P M (after (Some 2) (Effect.Append 1 ∷ [])) (Call.Push 2) (Reply.Push (Ok tt)) (in_table (fresh (Some 2)) P (start (Some 2) 0) (Call.Push 1) (Reply.Push (Ok tt)) refl refl one).1 refl two).1

abbrev len_is : ℕ → Reply ℕ
len_is n = Reply.Len n

not_one_of_two : len_is 1 ≡ len_is 2 → ⊥
not_one_of_two is = cc

-- the full ring without its front, with 3 at its end
abbrev displaced : State ℕ
displaced = after (Some 2) displacing

len_before : NoOrder Call.Len (Reply.Len 1) (Call.ForcePush 3) (Reply.ForcePush (Ok (Some 1)))
len_before last (P, (one, (M, (two, (N, (three, run)))))) = not_one_of_two (in_table M N full Call.Len (Reply.Len 1) (fills_up P M one two) refl three).0

len_behind : NoOrder (Call.ForcePush 3) (Reply.ForcePush (Ok (Some 1))) Call.Len (Reply.Len 1)
len_behind last (P, (one, (M, (two, (N, (three, (O, (four, run)))))))) =
    let after_three : N.queue ≡ displaced = (in_table M N full (Call.ForcePush 3) (Reply.ForcePush (Ok (Some 1))) (fills_up P M one two) refl three).1 in
    not_one_of_two (in_table N O displaced Call.Len (Reply.Len 1) after_three refl four).0

is_below : (k n : ℕ) → k < n → nat_lt k n ≡ true
is_below k n lt = grind arith

-- at the second item, and from the displacement on
two_items : (n : ℕ) → length (state_before (Some 2) (settled_history displacing) (2 + n)).items ≡ 2
two_items n =
    let first : nat_lt 0 (2 + n) ≡ true = is_below 0 (2 + n) (omega arith) in
    let second : nat_lt 1 (2 + n) ≡ true = is_below 1 (2 + n) (omega arith) in
    rw (first, second) (elim (nat_lt 2 (2 + n)) as (λ c. length (after (Some 2) (filled (if c then Effect.Front 1 3 ∷ (if c then Effect.Arrive ∷ [] else []) else (if c then Effect.Arrive ∷ [] else [])))).items ≡ 2) [ true ↦ refl | false ↦ refl ])

pub examples : Examples
examples = record {
  taken_between = (
    filled_runs (Effect.Front 1 3 ∷ Effect.Take 2 ∷ Effect.Arrive ∷ []) ((refl, refl, refl, inr (omega arith), (2 ∷ [], refl)), (([], refl), ((3, refl), tt))),
    refl,
    filled_at_once (Effect.Front 1 3 ∷ Effect.Arrive ∷ Effect.Take 2 ∷ []) (refl, (refl, refl, refl, inr (omega arith), (2 ∷ [], refl)), ((3 ∷ [], refl), tt)),
  );
  behind_a_close = (
    filled_runs (Effect.Close ∷ Effect.Front 1 3 ∷ Effect.Arrive ∷ []) (refl, ((refl, refl, refl, inr (omega arith), (2 ∷ [], refl)), ((3, refl), tt))),
    refl,
    filled_at_once (Effect.Front 1 3 ∷ Effect.Arrive ∷ Effect.Close ∷ []) (refl, (refl, refl, refl, inr (omega arith), (2 ∷ [], refl)), (refl, tt)),
  );
  two_behind_a_close = (filled_runs twice closing_runs, refl, filled_at_once twice_settled two_displace);
  under_way = (
    filled_runs (Effect.Front 1 3 ∷ []) ((refl, refl, refl, inr (omega arith), (2 ∷ [], refl)), tt),
    refl,
    filled_at_once (Effect.Front 1 3 ∷ Effect.Arrive ∷ []) (refl, (refl, refl, refl, inr (omega arith), (2 ∷ [], refl)), tt),
  );
  calls = refl;
  replies = refl;
  left_behind_a_take = λ r. r.1.1;
  left_behind_a_close = λ r. let no : true ≡ false = r.1.1.1.0 in cc;
  begun_at_the_close = refl;
  begun_behind_the_close = (refl, λ within. let no : false ≡ true = (within.1.1.0 refl).0 1 3 refl in cc);
  len_in_the_middle = inl refl;
  len_nowhere = λ n right. len_two (state_before (Some 2) (settled_history displacing) (2 + n)) (two_items n) right;
  len_before = len_before;
  len_behind = len_behind;
  not_of_glances = λ all. len_two (after (Some 2) displacing) refl
      (all (Some 2) (filled (Effect.Front 1 3 ∷ [])) (Effect.Arrive ∷ []) (filled_runs (Effect.Front 1 3 ∷ Effect.Arrive ∷ []) ((refl, refl, refl, inr (omega arith), (2 ∷ [], refl)), ((3, refl), tt))) Call.Len (Reply.Len 1) (inl refl));
}
