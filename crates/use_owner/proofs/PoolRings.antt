-- What the calls of a ring do to the pool that it keeps.
use Rattle.std.proofs.Common.{◌≡◌, ℕ, zero, suc, ◌+◌, ◌<◌, ◌≤◌, true, false, [], ◌∷◌, ◌++◌, length, Option, Some, None, Result, Ok, Err, refl, ap, sym, subst, ◌∙◌, inl, inr, arith, length-append}
use Rattle.std.specs.Prelude.{◌⊎◌, IfOk}
use Rattle.std.specs.{Option.unwrap_or, Result.result_ok, List.All}
use Rattle.std.proofs.lemmas.List.Elements.{All-push, All-tail}
use Rattle.queue_steps.specs.declared.{sizes.TheConstants.LIMIT, sizes.TheConstants.MAX_CAPACITY, errors.PopError.PopError, errors.PopError.PopError as pop, errors.PushError.PushError, errors.PushError.PushError as push}
use Rattle.queue_steps.specs.{State.State, State.is_slot_cap, Errors.push_error_value, Sequential.Owned, Sequential.counted}
use Rattle.queue_laws.proofs.History.Numbers.{AreDistinct}
use Rattle.use_owner.specs.{Pool.numbers, Pool.IsOut, Pool.TakesOne, Pool.Takes, Pool.GivesBack, PoolRings.count_of, PoolRings.places_of, PoolRings.IsPool}
use Rattle.use_owner.proofs.Places.{numbers_below, numbers_once, once_more, once_less, fits, takes_first, gives_last}

-- the ring as a call leaves it keeps a pool too
kept : (P R : Owned ℕ) → IsPool P → R.queue.cap ≡ P.queue.cap → All (λ place. place < count_of P) R.queue.items → AreDistinct R.queue.items → (R.queue.closed ≡ true → R.queue.accepted ≡ LIMIT)
    → (count_of R ≡ count_of P) × IsPool R
kept P R pool cap low once spent =
    let same : count_of R ≡ count_of P = ap (λ (c : Option ℕ). unwrap_or c 0) cap in (
      same,
      record {
        capped = cap ∙ (pool.capped ∙ ap Some (sym same));
        many = subst (λ (n : ℕ). 1 < n) (sym same) pool.many;
        places = subst (λ (n : ℕ). All (λ place. place < n) R.queue.items) (sym same) low;
        once = once;
        shut_when_spent = spent;
      },
    )

-- one that a call leaves as it is
unchanged : (P R : Owned ℕ) → IsPool P → R.queue.cap ≡ P.queue.cap → R.queue.items ≡ P.queue.items → R.queue.accepted ≡ P.queue.accepted → (R.queue.closed ≡ true → P.queue.accepted ≡ LIMIT)
    → (places_of R ≡ places_of P) × IsPool R
unchanged P R pool cap items accepted spent =
    let stays = kept P R pool cap (subst (All (λ place. place < count_of P)) (sym items) pool.places) (subst AreDistinct (sym items) pool.once) (λ e. accepted ∙ spent e) in
    (λ i. record { count = stays.0 i; free = items i; put_in = accepted i }, stays.1)

none_left : (P R : Owned ℕ) → IsPool P → P.queue.items ≡ [] → R.queue ≡ P.queue → IsPool R × TakesOne (places_of P) None (places_of R)
none_left P R pool none same =
    let stays = unchanged P R pool (ap (λ (Q : State ℕ). Q.cap) same) (ap (λ (Q : State ℕ). Q.items) same) (ap (λ (Q : State ℕ). Q.accepted) same) (λ e. pool.shut_when_spent (sym (ap (λ (Q : State ℕ). Q.closed) same) ∙ e)) in
    (stays.1, (λ place lt. (lt, λ has. let inside = has.1 in let few = ap length none in absurd (omega (arith, inside, few))), stays.0))

pub takes : (P R : Owned ℕ) (result : Result ℕ PopError) → IsPool P → IfOk result (λ item. P.queue ≡ record R.queue { items = item ∷ R.queue.items })
    → (result ≡ Err pop.Empty → (P.queue.items ≡ []) × (P.queue.closed ≡ false) × (R.queue ≡ P.queue))
    → (result ≡ Err pop.Closed → (P.queue.items ≡ []) × (P.queue.closed ≡ true) × (R.queue ≡ P.queue))
    → IsPool R × TakesOne (places_of P) (result_ok result) (places_of R)
takes P R (Err pop.Empty) pool ok empty closed = let found = empty refl in none_left P R pool found.0 found.2
takes P R (Err pop.Closed) pool ok empty closed = let found = closed refl in none_left P R pool found.0 found.2
takes P R (Ok place) pool ok empty closed =
    let items = ap (λ (Q : State ℕ). Q.items) ok in
    let low = subst (All (λ p. p < count_of P)) items pool.places in
    let once = subst AreDistinct items pool.once in
    let accepted = ap (λ (Q : State ℕ). Q.accepted) ok in
    let spent : R.queue.closed ≡ true → R.queue.accepted ≡ LIMIT = λ e. sym accepted ∙ pool.shut_when_spent (ap (λ (Q : State ℕ). Q.closed) ok ∙ e) in
    let stays = kept P R pool (sym (ap (λ (Q : State ℕ). Q.cap) ok)) (All-tail (λ p. p < count_of P) place R.queue.items low) (once_less place R.queue.items once) spent in
    let same : record (places_of P) { free = R.queue.items } ≡ places_of R = λ i. record { count = sym stays.0 i; free = R.queue.items; put_in = accepted i } in
    (stays.1, subst (Takes (places_of P) place) same (takes_first (places_of P) place R.queue.items items low once))

-- a place that was out is free again
pub gives_back : (P R : Owned ℕ) (v : ℕ) → IsPool P → IsOut (places_of P) v → R.queue.cap ≡ P.queue.cap → (R.queue.items ≡ P.queue.items ++ v ∷ []) × (R.queue.accepted ≡ counted P.queue) × (R.queue.closed ≡ false)
    → IsPool R × GivesBack (places_of P) v (places_of R)
gives_back P R v pool out cap ok =
    let single : is_slot_cap P.queue.cap ≡ false = rw pool.capped (let many = pool.many in grind arith) in
    let counts : counted P.queue ≡ P.queue.accepted + 1 = rw single refl in
    let low = subst (All (λ p. p < count_of P)) (sym ok.0) (All-push (λ p. p < count_of P) P.queue.items v pool.places out.0) in
    let stays = kept P R pool cap low (subst AreDistinct (sym ok.0) (once_more P.queue.items v pool.once out.1)) (λ e. absurd (let still = ok.2 in cc)) in
    let same : record (places_of P) { free = P.queue.items ++ v ∷ []; put_in = P.queue.accepted + 1 } ≡ places_of R = λ i. record { count = sym stays.0 i; free = sym ok.0 i; put_in = sym (ok.1 ∙ counts) i } in
    (stays.1, subst (GivesBack (places_of P) v) same (gives_last (places_of P) v out))

-- a place that is handed back
pub spent_pool : (P R : Owned ℕ) (v : ℕ) (result : Result (Unit {0}) (PushError ℕ)) (e : PushError ℕ) → result ≡ Err e → IsPool P → IsOut (places_of P) v → push_error_value e ≡ v
    → (result ≡ Err (push.Full v) → (P.queue.cap ≡ Some (length P.queue.items)) × (R.queue ≡ P.queue))
    → (result ≡ Err (push.Closed v) → ((P.queue.closed ≡ true) ⊎ (P.queue.accepted ≡ LIMIT)) × (R.queue ≡ record P.queue { closed = true }))
    → (result ≡ Err (push.NoMemory v) → (P.queue.cap ≡ None) × (R ≡ P))
    → IsPool R × (P.queue.accepted ≡ LIMIT) × (places_of R ≡ places_of P)
spent_pool P R v result (push.Full w) is pool out back full closed memory =
    let found = full (is ∙ ap (λ (x : ℕ). Err (push.Full x)) back) in
    let filled : count_of P ≡ length P.queue.items = ap (λ (c : Option ℕ). unwrap_or c 0) found.0 in
    let few = fits (count_of P) P.queue.items v pool.places pool.once out.0 out.1 in
    absurd (omega (arith, filled, few))
spent_pool P R v result (push.Closed w) is pool out back full closed memory =
    let found = closed (is ∙ ap (λ (x : ℕ). Err (push.Closed x)) back) in
    let n : P.queue.accepted ≡ LIMIT = elim found.0 [ inl e ↦ pool.shut_when_spent e | inr e ↦ e ] in
    let stays = unchanged P R pool (ap (λ (Q : State ℕ). Q.cap) found.1) (ap (λ (Q : State ℕ). Q.items) found.1) (ap (λ (Q : State ℕ). Q.accepted) found.1) (λ e. n) in
    (stays.1, n, stays.0)
spent_pool P R v result (push.NoMemory w) is pool out back full closed memory =
    let found = memory (is ∙ ap (λ (x : ℕ). Err (push.NoMemory x)) back) in
    let no = found.0 in
    let some = pool.capped in
    absurd (cc)

-- an open ring of this capacity that has the places below k
abbrev pub filling : ℕ → ℕ → State ℕ
filling count k = record { items = numbers k; cap = Some count; closed = false; coming = None; accepted = k }

numbers_many : (n : ℕ) → length (numbers n) ≡ n
numbers_many zero = refl
numbers_many (suc n) = let before = numbers_many n in omega (arith, before, length-append (numbers n) (n ∷ []))

-- there is room for the next place
pub has_room : (P R : Owned ℕ) (count k : ℕ) (result : Result (Unit {0}) (PushError ℕ)) (e : PushError ℕ) → result ≡ Err e → P.queue ≡ filling count k → k < count → count ≤ MAX_CAPACITY → push_error_value e ≡ k
    → (result ≡ Err (push.Full k) → (P.queue.cap ≡ Some (length P.queue.items)) × (R.queue ≡ P.queue))
    → (result ≡ Err (push.Closed k) → ((P.queue.closed ≡ true) ⊎ (P.queue.accepted ≡ LIMIT)) × (R.queue ≡ record P.queue { closed = true }))
    → (result ≡ Err (push.NoMemory k) → (P.queue.cap ≡ None) × (R ≡ P)) → ⊥
has_room P R count k result (push.Full w) is filled low most back full closed memory =
    let found = full (is ∙ ap (λ (x : ℕ). Err (push.Full x)) back) in
    let all : count ≡ length (numbers k) = ap (λ (c : Option ℕ). unwrap_or c 0) (sym (ap (λ (Q : State ℕ). Q.cap) filled) ∙ (found.0 ∙ ap (λ (Q : State ℕ). Some (length Q.items)) filled)) in
    let many = numbers_many k in
    omega (arith, all, many, low)
has_room P R count k result (push.Closed w) is filled low most back full closed memory =
    let found = closed (is ∙ ap (λ (x : ℕ). Err (push.Closed x)) back) in
    elim found.0 [
      | inl e ↦ (let no = sym (ap (λ (Q : State ℕ). Q.closed) filled) ∙ e in cc)
      | inr e ↦ (let n : k ≡ LIMIT = sym (ap (λ (Q : State ℕ). Q.accepted) filled) ∙ e in grind arith)
    ]
has_room P R count k result (push.NoMemory w) is filled low most back full closed memory =
    let found = memory (is ∙ ap (λ (x : ℕ). Err (push.NoMemory x)) back) in
    let no = sym (ap (λ (Q : State ℕ). Q.cap) filled) ∙ found.0 in
    cc

pub pool_made : (P : Owned ℕ) (count k : ℕ) → P.queue ≡ filling count k → k ≡ count → 1 < count → IsPool P
pool_made P count k is all many = record {
  capped = cap ∙ ap Some (sym n);
  many = rw n many;
  places = rw (n, items, all) (numbers_below count);
  once = rw (items, all) (numbers_once count);
  shut_when_spent = λ e. absurd (let no = ap (λ (Q : State ℕ). Q.closed) is in cc);
}
  where
    cap : P.queue.cap ≡ Some count
    cap = ap (λ (Q : State ℕ). Q.cap) is

    n : count_of P ≡ count
    n = ap (λ (o : Option ℕ). unwrap_or o 0) cap

    items : P.queue.items ≡ numbers k
    items = ap (λ (Q : State ℕ). Q.items) is
