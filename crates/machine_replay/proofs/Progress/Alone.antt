-- How soon a call alone and a wait-free call reply.
use Rattle.std.proofs.Common.{◌≡◌, ◌≢◌, ◌⊎◌, ◌∙◌, ℕ, zero, suc, ◌+◌, ◌<◌, ◌&&◌, nat_lt, Bool, true, false, Option, Some, None, is_some, is_none, refl, sym, ap, subst, arith, inl, inr}
use Rattle.std.proofs.lemmas.Bool.{ltb-true, eq-eqb, Decides.eqb_tells}
use Rattle.queue_laws.proofs.Common.Tests.{is_none_true}
use Rattle.machine_replay.specs.Vocabulary.{Reply, STEPS_ALONE, WAIT_FREE_STEPS, Event, Told, EffectKind, Begin, Step, Skipped, Ran}
use Rattle.machine_replay.specs.Book.{Book, Open, Happens, Steps, is_wait_free, opening, put, at_open, joined, watched, after_own, begun}
use Rattle.machine_replay.proofs.Traces.TraceSteps.{put-cases, at_open-cases}

abbrev one_if : {X : Type 0} → Option X → ℕ
one_if None = 0
one_if (Some x) = 1

-- how many of the first n parties are in a call
abbrev count : {X : Type 0} → ℕ → (ℕ → Option X) → ℕ
count zero f = 0
count (suc n) f = count n f + one_if (f n)

count-same : {X : Type 0} (n : ℕ) (f g : ℕ → Option X) → ((j : ℕ) → j < n → one_if (f j) ≡ one_if (g j)) → count n f ≡ count n g
count-same zero f g same = refl
count-same (suc n) f g same =
    let rest = count-same n f g (λ j lt. same j (omega arith)) in
    let last = same n (omega arith) in
    omega arith

pub put-same : {T : Type 0} (f : ℕ → Option (Open T)) (p : ℕ) (y : Option (Open T)) → put f p y p ≡ y
put-same f p y = rw (eq-eqb p p refl) refl

pub put-other : {T : Type 0} (f : ℕ → Option (Open T)) (p j : ℕ) (y : Option (Open T)) → j ≢ p → put f p y j ≡ f j
put-other f p j y ne = elim (eqb_tells j p) [ inl t ↦ absurd (ne t.1) | inr t ↦ rw t.0 refl ]

last-or-less : (p n : ℕ) → p < suc n → (p ≡ n) ⊎ (p < n)
last-or-less p n lt = grind arith

count-put-last : {T : Type 0} (n p : ℕ) (f : ℕ → Option (Open T)) (y : Option (Open T)) → p ≡ n → count (suc n) (put f p y) + one_if (f p) ≡ count (suc n) f + one_if y
count-put-last n p f y e =
    let same = count-same n (put f p y) f (λ j before. ap one_if (put-other f p j y (λ s. absurd (omega arith)))) in
    let last : one_if (put f p y n) ≡ one_if y = ap (λ k. one_if (put f p y k)) (sym e) ∙ ap one_if (put-same f p y) in
    let was : one_if (f p) ≡ one_if (f n) = ap (λ k. one_if (f k)) e in
    omega arith

count-put : {T : Type 0} (n p : ℕ) (f : ℕ → Option (Open T)) (y : Option (Open T)) → p < n → count n (put f p y) + one_if (f p) ≡ count n f + one_if y
count-put zero p f y lt = absurd (omega arith)
count-put (suc n) p f y lt =
    elim (last-or-less p n lt) [
      | inl e ↦ count-put-last n p f y e
      | inr before ↦
          let rest = count-put n p f y before in
          let last : one_if (put f p y n) ≡ one_if (f n) = ap one_if (put-other f p n y (λ s. absurd (omega arith))) in
          omega arith
    ]

count-none : (X : Type 0) (n : ℕ) → count {X = X} n (λ j. None) ≡ 0
count-none X zero = refl
count-none X (suc n) = let rest : count {X = X} n (λ j. None) ≡ 0 = count-none X n in omega arith

one-at_open : {T : Type 0} (h : Open T → Open T) (y : Option (Open T)) → one_if (at_open h y) ≡ one_if y
one-at_open h None = refl
one-at_open h (Some o) = refl

-- what holds of each book of a run
pub record Counts {T : Type 0} (parties : ℕ) (b : Book T) : Type 0 where
  pub busy : b.busy ≡ count parties b.open_call
  pub within : (j : ℕ) (o : Open T) → b.open_call j ≡ Some o → j < parties
  pub alone : (j : ℕ) (o : Open T) → b.open_call j ≡ Some o → o.alone < STEPS_ALONE
  pub wait_free : (j : ℕ) (o : Open T) → b.open_call j ≡ Some o → is_wait_free o.call ≡ true → o.steps < WAIT_FREE_STEPS

pub counts-first : (T : Type 0) (cap : Option ℕ) (parties : ℕ) → Counts {T = T} parties (opening cap)
counts-first T cap parties = record { busy = sym (count-none (Open T) parties); within = λ j o e. cc; alone = λ j o e. cc; wait_free = λ j o e. cc }

pub and-left : (a b : Bool) → (a && b) ≡ true → a ≡ true
and-left true b e = refl
and-left false b e = cc

pub and-right : (a b : Bool) → (a && b) ≡ true → b ≡ true
and-right true b e = e
and-right false b e = cc

counts-begun : {T : Type 0} (parties : ℕ) (b c : Book T) (p : ℕ) (k : _) → Counts parties b → p < parties → b.open_call p ≡ None
    → c ≡ record { queue = b.queue; busy = b.busy + 1; open_call = put (λ j. at_open joined (b.open_call j)) p (Some (begun k)) } → Counts parties c
counts-begun {T} parties b c p k h lt free same = rw same (record {
  busy =
      let added = count-put parties p (λ j. at_open joined (b.open_call j)) (Some (begun k)) lt in
      let was : one_if (at_open joined (b.open_call p)) ≡ 0 = rw free refl in
      let all = count-same parties (λ j. at_open joined (b.open_call j)) b.open_call (λ j l. one-at_open joined (b.open_call j)) in
      let busy = h.busy in
      omega arith;
  within = λ j o e. elim (put-cases (λ j. at_open joined (b.open_call j)) p j (Some (begun k)) o e) [
    | inl m ↦ let at = m.0 in omega arith
    | inr m ↦ let old = at_open-cases joined (b.open_call j) o m.1 in h.within j old.0 old.1
  ];
  alone = λ j o e. elim (put-cases (λ j. at_open joined (b.open_call j)) p j (Some (begun k)) o e) [
    | inl m ↦ let is : begun k ≡ o = let x = m.1 in cc in let zero : o.alone ≡ 0 = ap (λ z. z.alone) (sym is) in omega arith
    | inr m ↦ let old = at_open-cases joined (b.open_call j) o m.1 in let zero : o.alone ≡ 0 = ap (λ z. z.alone) (sym old.2) in omega arith
  ];
  wait_free = λ j o e is_p. elim (put-cases (λ j. at_open joined (b.open_call j)) p j (Some (begun k)) o e) [
    | inl m ↦ let is : begun k ≡ o = let x = m.1 in cc in let zero : o.steps ≡ 0 = ap (λ z. z.steps) (sym is) in omega arith
    | inr m ↦
        let old = at_open-cases joined (b.open_call j) o m.1 in
        let same_call : is_wait_free old.0.call ≡ true = ap (λ z. is_wait_free z.call) old.2 ∙ is_p in
        let few = h.wait_free j old.0 old.1 same_call in
        let same_steps : o.steps ≡ old.0.steps = ap (λ z. z.steps) (sym old.2) in
        omega arith
  ];
})

-- the call that stays is within its bounds
counts-stepped : {T : Type 0} (parties : ℕ) (b c : Book T) (p : ℕ) (k : Option EffectKind) (r : Option (Reply T)) → Counts parties b → p < parties → Steps b p k r c → Counts parties c
counts-stepped {T} parties b c p k None h lt s = record {
  busy =
      let added = count-put parties p others (Some mine) lt in
      let was : one_if (others p) ≡ 1 = ap (λ y. one_if (at_open (watched c.queue) y)) s.in_call in
      let all = count-same parties others b.open_call (λ j l. one-at_open (watched c.queue) (b.open_call j)) in
      let busy = h.busy in
      let now = s.busy in
      let calls : count parties c.open_call ≡ count parties (put others p (Some mine)) = ap (count parties) s.calls in
      omega arith;
  within = λ j o e. elim (put-cases others p j (Some mine) o (sym (ap (λ z. z j) s.calls) ∙ e)) [
    | inl m ↦ let at = m.0 in omega arith
    | inr m ↦ let old = at_open-cases (watched c.queue) (b.open_call j) o m.1 in h.within j old.0 old.1
  ];
  alone = λ j o e. elim (put-cases others p j (Some mine) o (sym (ap (λ z. z j) s.calls) ∙ e)) [
    | inl m ↦ let is : mine ≡ o = let x = m.1 in cc in subst (λ z. z.alone < STEPS_ALONE) is s.goes.alone
    | inr m ↦ let old = at_open-cases (watched c.queue) (b.open_call j) o m.1 in subst (λ z. z.alone < STEPS_ALONE) old.2 (h.alone j old.0 old.1)
  ];
  wait_free = λ j o e is_p. elim (put-cases others p j (Some mine) o (sym (ap (λ z. z j) s.calls) ∙ e)) [
    | inl m ↦ let is : mine ≡ o = let x = m.1 in cc in subst (λ z. z.steps < WAIT_FREE_STEPS) is (s.goes.wait_free (ap (λ z. is_wait_free z.call) is ∙ is_p))
    | inr m ↦ let old = at_open-cases (watched c.queue) (b.open_call j) o m.1 in subst (λ z. z.steps < WAIT_FREE_STEPS) old.2 (h.wait_free j old.0 old.1 (ap (λ z. is_wait_free z.call) old.2 ∙ is_p))
  ];
}
  where
    mine : Open T
    mine = after_own b.busy s.o c.queue s.effects

    others : ℕ → Option (Open T)
    others = λ j. at_open (watched c.queue) (b.open_call j)
counts-stepped {T} parties b c p k (Some r) h lt s = record {
  busy =
      let added = count-put parties p others None lt in
      let was : one_if (others p) ≡ 1 = ap (λ y. one_if (at_open (watched c.queue) y)) s.in_call in
      let all = count-same parties others b.open_call (λ j l. one-at_open (watched c.queue) (b.open_call j)) in
      let busy = h.busy in
      let now = s.busy in
      let calls : count parties c.open_call ≡ count parties (put others p None) = ap (count parties) s.calls in
      omega arith;
  within = λ j o e. elim (put-cases others p j None o (sym (ap (λ z. z j) s.calls) ∙ e)) [
    | inl m ↦ let x = m.1 in cc
    | inr m ↦ let old = at_open-cases (watched c.queue) (b.open_call j) o m.1 in h.within j old.0 old.1
  ];
  alone = λ j o e. elim (put-cases others p j None o (sym (ap (λ z. z j) s.calls) ∙ e)) [
    | inl m ↦ let x = m.1 in cc
    | inr m ↦ let old = at_open-cases (watched c.queue) (b.open_call j) o m.1 in subst (λ z. z.alone < STEPS_ALONE) old.2 (h.alone j old.0 old.1)
  ];
  wait_free = λ j o e is_p. elim (put-cases others p j None o (sym (ap (λ z. z j) s.calls) ∙ e)) [
    | inl m ↦ let x = m.1 in cc
    | inr m ↦ let old = at_open-cases (watched c.queue) (b.open_call j) o m.1 in subst (λ z. z.steps < WAIT_FREE_STEPS) old.2 (h.wait_free j old.0 old.1 (ap (λ z. is_wait_free z.call) old.2 ∙ is_p))
  ];
}
  where
    others : ℕ → Option (Open T)
    others = λ j. at_open (watched c.queue) (b.open_call j)

pub counts-happens : {T : Type 0} (cap : Option ℕ) (parties : ℕ) (b c : Book T) (x : Event T) (t : Told T) → Counts parties b → Happens cap parties b x t c → Counts parties c
counts-happens cap parties b c x Skipped h e = rw e.1 h
counts-happens cap parties b c (Begin p k) (Ran None None) h e =
    counts-begun parties b c p k h (ltb-true p parties (and-left (nat_lt p parties) (is_none (b.open_call p)) e.0)) (is_none_true (b.open_call p) (and-right (nat_lt p parties) (is_none (b.open_call p)) e.0)) e.2
counts-happens cap parties b c (Begin p k) (Ran None (Some r)) h e = rw e.3 h
counts-happens cap parties b c (Begin p k) (Ran (Some x) r) h e = absurd e
counts-happens cap parties b c (Step p granted) (Ran k r) h e =
    counts-stepped parties b c p k r h (ltb-true p parties (and-left (nat_lt p parties) (is_some (b.open_call p)) e.0)) e.1

-- where a party is in a call, one is in progress
pub some-busy : {T : Type 0} (parties : ℕ) (b : Book T) (p : ℕ) (o : Open T) → Counts parties b → b.open_call p ≡ Some o → 0 < b.busy
some-busy parties b p o h e =
    let added = count-put parties p b.open_call None (h.within p o e) in
    let was : one_if (b.open_call p) ≡ 1 = ap one_if e in
    let busy = h.busy in
    omega arith

-- one party alone is in a call
pub count-alone : {T : Type 0} (n p : ℕ) (f : ℕ → Option (Open T)) (o : Open T) → p < n → f p ≡ Some o → ((j : ℕ) → j ≢ p → f j ≡ None) → count n f ≡ 1
count-alone {T} n p f o lt here others =
    let added = count-put n p f None lt in
    let none = count-same n (put f p None) (λ j. None) (λ j l. elim (eqb_tells j p) [ inl t ↦ ap one_if (ap (λ k. put f p None k) t.1 ∙ put-same f p None) | inr t ↦ ap one_if (put-other f p j None t.1 ∙ others j t.1) ]) in
    let zero_all : count {X = Open T} n (λ j. None) ≡ 0 = count-none (Open T) n in
    let was : one_if (f p) ≡ 1 = ap one_if here in
    omega arith
