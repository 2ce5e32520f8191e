-- A call alone replies within its bound, and a wait-free call by its second step.
use Rattle.std.proofs.Common.{◌≡◌, ◌≢◌, ◌⊎◌, ◌∙◌, ℕ, ◌+◌, ◌<◌, ◌≤◌, nat_lt, Bool, true, false, cond, if◌then◌else◌, Option, Some, None, is_some, is_none, List, [], ◌∷◌, ◌++◌, length, refl, sym, ap, subst, arith, inl, inr, count_by, drop, slice_get, append-nil, append_assoc}
use Rattle.std.proofs.lemmas.{Bool.lt-ltb, Bool.Decides.eqb_tells, List.drop-append-le, List.drop_all, List.take-append-le, List.take_all, List.Elements.Contains-push, List.Sums.sum_by-append}
use Rattle.queue_laws.proofs.Common.Tests.{none_if, is_none_true}
use Rattle.machine_replay.specs.Vocabulary.{Call, Reply, STEPS_ALONE, WAIT_FREE_STEPS, Event, Told, Replay, Begin, Step, Skipped, Ran}
use Rattle.machine_replay.specs.Book.{Book, Open, Happens, Run, fits, is_wait_free, opening, at_open, joined, watched, after_own, begun}
use Rattle.machine_replay.specs.{Conforms.Conforms, Conforms.party_of, InCall.IsInCall, Within.is_step_of, Within.steps_between, Within.IsAloneBetween, Within.CallsAloneReply, Within.WaitFreeCallsReply}
use Rattle.machine_replay.proofs.{Engine.Calls.with_reply, Engine.Entries.event-last, Engine.Entries.length-one, Progress.Alone.Counts, Progress.Alone.counts-first, Progress.Alone.counts-happens, Progress.Alone.count-alone, Progress.Alone.put-same, Progress.Alone.and-right, Replays.Skips.noted}
use Rattle.machine_replay.proofs.Replays.{Skips.earlier-now, Skips.earlier-before, Skips.there-before, Skips.was-there, Skips.last-or-earlier, SkipsRun.Fair, SkipsRun.is_skipped, SkipsRun.reply_told, SkipsAll.fair-first, SkipsAll.fair-next, SkipsAll.some-open}
use Rattle.machine_replay.proofs.Traces.TraceSteps.{put-cases, at_open-cases}

-- how many steps of party p there are from the event `since` on
abbrev taken : {T : Type 0} → ℕ → ℕ → List (Event T) → ℕ
taken p since events = count_by (is_step_of p) (drop since events)

taken-more : {T : Type 0} (p since : ℕ) (past : List (Event T)) (x : Event T) → since ≤ length past → taken p since (past ++ x ∷ []) ≡ taken p since past + cond (is_step_of p x) 1 0
taken-more p since past x le = rw (drop-append-le since past (x ∷ []) le, sum_by-append (λ y. cond (is_step_of p y) 1 0) (drop since past) (x ∷ [])) (omega arith)

taken-none : {T : Type 0} (p since : ℕ) (events : List (Event T)) → length events ≤ since → taken p since events ≡ 0
taken-none p since events le = rw (drop_all since events le) refl

le-or-more : (m n : ℕ) → (m ≤ n) ⊎ (n < m)
le-or-more m n = grind arith

not-my-step : (T : Type 0) (p q : ℕ) (g : Bool) → q ≢ p → is_step_of {T = T} p (Step q g) ≡ false
not-my-step T p q g ne = elim (eqb_tells q p) [ inl t ↦ absurd (ne t.1) | inr t ↦ t.0 ]

no-step : {T : Type 0} (p : ℕ) (x : Event T) → is_step_of p x ≡ false → cond (is_step_of p x) 1 0 ≤ 0
no-step p x e = rw e (omega arith)

-- how many steps a call took, and took while it was alone
record Pace {T : Type 0} (past : List (Event T)) (S : List ℕ) (R : List (ℕ × ℕ × Reply T)) (p n : ℕ) (o : Open T) (k : IsInCall past S R p n) : Type 0 where
  same_call : k.call ≡ o.call
  steps : (since : ℕ) → k.first ≤ since → taken p since past ≤ o.steps
  alone : (since : ℕ) → k.first ≤ since → IsAloneBetween past S R p since n → taken p since past ≤ o.alone

begin-is : {T : Type 0} (p q : ℕ) (c d : Call T) → Some (Begin p c) ≡ Some (Begin q d) → (q ≡ p) × (d ≡ c)
begin-is p q c d e = (cc, cc)

step-no-begin : {T : Type 0} (p q : ℕ) (g : Bool) (d : Call T) → Some (Step p g) ≡ Some (Begin q d) → ⊥
step-no-begin p q g d e = cc

module _ (T : Type 0) (parties : ℕ) (past : List (Event T)) (told : List (Told T)) (n : ℕ) (S : List ℕ) (R : List (ℕ × ℕ × Reply T)) (b c : Book T) (x : Event T) (t : Told T) (f : Fair parties past told n S R b) (h : Counts parties b)
    (paces : (p : ℕ) (o : Open T) → b.open_call p ≡ Some o → (k : IsInCall past S R p n) → Pace past S R p n o k) where
  abbrev now : List (Event T)
  now = past ++ x ∷ []

  abbrev skipped : List ℕ
  skipped = noted n (is_skipped t) S

  abbrev replied : List (ℕ × ℕ × Reply T)
  replied = with_reply n (party_of x) (reply_told t) R

  -- what is told of the event at which a call began
  began-here : (p : ℕ) (k : IsInCall now skipped replied p (n + 1)) → k.first ≡ n → Some x ≡ Some (Begin p k.call)
  began-here p k at = sym (event-last past n x f.len) ∙ subst (λ m. slice_get now m ≡ Some (Begin p k.call)) at k.begins.0

  ran-here : (p : ℕ) (k : IsInCall now skipped replied p (n + 1)) → k.first ≡ n → t ≡ Skipped → ⊥
  ran-here p k at e = k.begins.1 (rw (at, e) (Contains-push S n))

  alone-before : (p since : ℕ) → IsAloneBetween now skipped replied p since (n + 1) → IsAloneBetween past S R p since n
  alone-before p since alone q m ne from upto in_call = alone q m ne from (omega arith) (earlier-now T past x S R n (party_of x) (is_skipped t) (reply_told t) f.len f.early q m upto in_call)

  -- a call that was there goes on, and takes so many steps here
  pace-on : (p : ℕ) (o o' : Open T) → b.open_call p ≡ Some o → (k : IsInCall now skipped replied p (n + 1)) → k.first < n → o'.call ≡ o.call → o.steps + cond (is_step_of p x) 1 0 ≤ o'.steps
      → (IsAloneBetween now skipped replied p n (n + 1) → o.alone + cond (is_step_of p x) 1 0 ≤ o'.alone) → Pace now skipped replied p (n + 1) o' k
  pace-on p o o' here k lt call steps alone =
      let old = paces p o here (there-before T past x S R n (party_of x) (is_skipped t) (reply_told t) f.len f.early p k lt) in
      let len = f.len in
      let long = length-one past x in
      record {
        same_call = old.same_call ∙ sym call;
        steps = λ since from. elim (le-or-more since n) [
          | inl le ↦ let more = taken-more p since past x (omega arith) in let few = old.steps since from in omega arith
          | inr late ↦ let none = taken-none p since now (omega arith) in omega arith
        ];
        alone = λ since from quiet. elim (le-or-more since n) [
          | inl le ↦
              let more = taken-more p since past x (omega arith) in
              let few = old.alone since from (alone-before p since quiet) in
              let now_alone = alone (λ q m ne low high. quiet q m ne (omega arith) high) in
              omega arith
          | inr late ↦ let none = taken-none p since now (omega arith) in omega arith
        ];
      }

  -- a call that begins here
  pace-begun : (p : ℕ) (d : Call T) → x ≡ Begin p d → (k : IsInCall now skipped replied p (n + 1)) → k.first ≡ n → Pace now skipped replied p (n + 1) (begun d) k
  pace-begun p d is k at =
      let len = f.len in
      let long = length-one past x in
      let none : (since : ℕ) → k.first ≤ since → taken p since now ≤ 0 = λ since from. elim (le-or-more since n) [
        | inl le ↦ let more = taken-more p since past x (omega arith) in let before = taken-none p since past (omega arith) in let here = no-step p x (ap (is_step_of p) is) in omega arith
        | inr late ↦ let zero = taken-none p since now (omega arith) in omega arith
      ] in
      record { same_call = (begin-is p p d k.call (sym (ap Some is) ∙ began-here p k at)).1; steps = none; alone = λ since from quiet. none since from }

-- a party in a call takes no step that is skipped
skipped-no-step : {T : Type 0} (parties p : ℕ) (b : Book T) (o : Open T) (x : Event T) → fits parties b x ≡ false → b.open_call p ≡ Some o → p < parties → is_step_of p x ≡ false
skipped-no-step parties p b o (Begin q d) bad here lt = refl
skipped-no-step {T} parties p b o (Step q g) bad here lt = elim (eqb_tells q p) [
  | inl t ↦ absurd (let is : fits parties b (Step q g) ≡ true = rw (t.1, here, lt-ltb p parties lt) refl in cc)
  | inr t ↦ not-my-step T p q g t.1
]

one-at-most : (b : Bool) → cond b 1 0 ≤ 1
one-at-most true = omega arith
one-at-most false = omega arith

stays-at : {T : Type 0} (r : Option (Reply T)) (mine o : Open T) → (if is_some r then None else Some mine) ≡ Some o → mine ≡ o
stays-at None mine o e = cc
stays-at (Some z) mine o e = cc

-- how the run goes on from the book b to c, by one event
module _ {T : Type 0} (cap : Option ℕ) (parties : ℕ) (past : List (Event T)) (told : List (Told T)) (n : ℕ) (S : List ℕ) (R : List (ℕ × ℕ × Reply T)) (b c : Book T) where
  pace-next : (x : Event T) (t : Told T) → Fair parties past told n S R b → Counts parties b
      → ((p : ℕ) (o : Open T) → b.open_call p ≡ Some o → (k : IsInCall past S R p n) → Pace past S R p n o k)
      → Fair parties (past ++ x ∷ []) (told ++ t ∷ []) (n + 1) (noted n (is_skipped t) S) (with_reply n (party_of x) (reply_told t) R) c → Happens cap parties b x t c
      → (p : ℕ) (o : Open T) → c.open_call p ≡ Some o → (k : IsInCall (past ++ x ∷ []) (noted n (is_skipped t) S) (with_reply n (party_of x) (reply_told t) R) p (n + 1))
      → Pace (past ++ x ∷ []) (noted n (is_skipped t) S) (with_reply n (party_of x) (reply_told t) R) p (n + 1) o k
  pace-next x Skipped f h paces f' happens p o here k =
      let was : b.open_call p ≡ Some o = sym (ap (λ z. z.open_call p) happens.1) ∙ here in
      let zero = no-step p x (skipped-no-step parties p b o x happens.0 was (h.within p o was)) in
      elim (was-there T past x S R n (party_of x) true None f.len f.early p k) [
        | inl at ↦ absurd (ran-here T parties past told n S R b c x Skipped f h paces p k at refl)
        | inr lt ↦ pace-on T parties past told n S R b c x Skipped f h paces p o o was k lt refl (omega arith) (λ quiet. omega arith)
      ]
  pace-next (Begin q d) (Ran None None) f h paces f' happens p o here k =
      elim (put-cases (λ j. at_open joined (b.open_call j)) q p (Some (begun d)) o (sym (ap (λ z. z.open_call p) happens.2) ∙ here)) [
        | inl m ↦ elim (was-there T past (Begin q d) S R n q false None f.len f.early p k) [
          | inl at ↦
              let is : begun d ≡ o = let e = m.1 in cc in
              subst (λ z. Pace (past ++ Begin q d ∷ []) S R p (n + 1) z k) is (pace-begun T parties past told n S R b c (Begin q d) (Ran None None) f h paces p d (ap (λ z. Begin z d) (sym m.0)) k at)
          | inr lt ↦ absurd (f.outside p (ap b.open_call m.0 ∙ is_none_true (b.open_call q) (and-right (nat_lt q parties) (is_none (b.open_call q)) happens.0)) (there-before T past (Begin q d) S R n q false None f.len f.early p k lt))
        ]
        | inr m ↦
            let old = at_open-cases joined (b.open_call p) o m.1 in
            elim (was-there T past (Begin q d) S R n q false None f.len f.early p k) [
              | inl at ↦ absurd (m.0 (begin-is q p d k.call (began-here T parties past told n S R b c (Begin q d) (Ran None None) f h paces p k at)).0)
              | inr lt ↦
                  let steps : o.steps ≡ old.0.steps = ap (λ z. z.steps) (sym old.2) in
                  pace-on T parties past told n S R b c (Begin q d) (Ran None None) f h paces p old.0 o old.1 k lt (ap (λ z. z.call) (sym old.2)) (omega arith)
                  (λ quiet. absurd (quiet q (n + 1) (λ e. m.0 (sym e)) (omega arith) (omega arith) (f'.inside q (begun d) (ap (λ z. z.open_call q) happens.2 ∙ put-same (λ j. at_open joined (b.open_call j)) q (Some (begun d))))))
            ]
      ]
  pace-next (Begin q d) (Ran None (Some r)) f h paces f' happens p o here k =
      let was : b.open_call p ≡ Some o = sym (ap (λ z. z.open_call p) happens.3) ∙ here in
      elim (was-there T past (Begin q d) S R n q false (Some r) f.len f.early p k) [
        | inl at ↦
            let same = (begin-is q p d k.call (began-here T parties past told n S R b c (Begin q d) (Ran None (Some r)) f h paces p k at)).0 in
            let free : b.open_call p ≡ None = ap b.open_call same ∙ is_none_true (b.open_call q) (and-right (nat_lt q parties) (is_none (b.open_call q)) happens.0) in
            cc
        | inr lt ↦ pace-on T parties past told n S R b c (Begin q d) (Ran None (Some r)) f h paces p o o was k lt refl (omega arith) (λ quiet. omega arith)
      ]
  pace-next (Begin q d) (Ran (Some e) r) f h paces f' happens p o here k = absurd happens
  pace-next (Step q g) (Ran e r) f h paces f' happens p o here k =
      let s = happens.1 in
      let mine = after_own b.busy s.o c.queue s.effects in
      let earlier : k.first < n = elim (was-there T past (Step q g) S R n q false r f.len f.early p k) [
        | inl at ↦ absurd (step-no-begin q p g k.call (began-here T parties past told n S R b c (Step q g) (Ran e r) f h paces p k at))
        | inr lt ↦ lt
      ] in
      elim (put-cases (λ j. at_open (watched c.queue) (b.open_call j)) q p (if is_some r then None else Some mine) o (sym (ap (λ z. z p) s.calls) ∙ here)) [
        | inl m ↦
            let was : b.open_call p ≡ Some s.o = ap b.open_call m.0 ∙ s.in_call in
            let is = stays-at r mine o m.1 in
            let small = one-at-most (is_step_of {T = T} p (Step q g)) in
            let steps : o.steps ≡ s.o.steps + 1 = ap (λ z. z.steps) (sym is) in
            pace-on T parties past told n S R b c (Step q g) (Ran e r) f h paces p s.o o was k earlier (ap (λ z. z.call) (sym is)) (omega arith)
            (λ quiet.
            let others : (j : ℕ) → j ≢ p → b.open_call j ≡ None = λ j ne. none_if (b.open_call j) (λ y open_. quiet j n ne (omega arith) (omega arith) (earlier-now T past (Step q g) S R n q false r f.len f.early j n (omega arith) (f.inside j y open_))) in
            let one : b.busy ≡ 1 = h.busy ∙ count-alone parties p b.open_call s.o (h.within p s.o was) was others in
            let more : mine.alone ≡ s.o.alone + 1 = rw one refl in
            let alone : o.alone ≡ mine.alone = ap (λ z. z.alone) (sym is) in
            omega arith)
        | inr m ↦
            let old = at_open-cases (watched c.queue) (b.open_call p) o m.1 in
            let zero = no-step {T = T} p (Step q g) (not-my-step T p q g (λ e. m.0 (sym e))) in
            let steps : o.steps ≡ old.0.steps = ap (λ z. z.steps) (sym old.2) in
            let alone : o.alone ≡ old.0.alone = ap (λ z. z.alone) (sym old.2) in
            pace-on T parties past told n S R b c (Step q g) (Ran e r) f h paces p old.0 o old.1 k earlier (ap (λ z. z.call) (sym old.2)) (omega arith) (λ quiet. omega arith)
      ]

-- what is known of the steps of all calls so far
record Paced {T : Type 0} (parties : ℕ) (past : List (Event T)) (told : List (Told T)) (n : ℕ) (S : List ℕ) (R : List (ℕ × ℕ × Reply T)) (b : Book T) : Type 0 where
  fair : Fair parties past told n S R b
  counts : Counts parties b
  paces : (p : ℕ) (o : Open T) → b.open_call p ≡ Some o → (k : IsInCall past S R p n) → Pace past S R p n o k
  alone : (m p since : ℕ) (k : IsInCall past S R p m) → m ≤ n → k.first ≤ since → IsAloneBetween past S R p since m → steps_between past p since m < STEPS_ALONE
  wait_free : (m p : ℕ) (k : IsInCall past S R p m) → m ≤ n → is_wait_free k.call ≡ true → steps_between past p k.first m < WAIT_FREE_STEPS

steps-before : {T : Type 0} (past ys : List (Event T)) (p since m : ℕ) → m ≤ length past → steps_between (past ++ ys) p since m ≡ steps_between past p since m
steps-before past ys p since m le = ap (λ l. taken p since l) (take-append-le m past ys le)

steps-all : {T : Type 0} (events : List (Event T)) (p since m : ℕ) → m ≡ length events → steps_between events p since m ≡ taken p since events
steps-all events p since m e = ap (λ l. taken p since l) (take_all m events (omega arith))

module _ (T : Type 0) (cap : Option ℕ) (parties : ℕ) (past : List (Event T)) (told : List (Told T)) (n : ℕ) (S : List ℕ) (R : List (ℕ × ℕ × Reply T)) (b c : Book T) (x : Event T) (t : Told T) (d : Paced parties past told n S R b) (happens : Happens cap parties b x t c) where
  f : Fair parties past told n S R b
  f = d.fair

  len : n ≡ length past
  len = f.len

  abbrev later : List (Event T)
  later = past ++ x ∷ []

  abbrev omitted : List ℕ
  omitted = noted n (is_skipped t) S

  abbrev answers : List (ℕ × ℕ × Reply T)
  answers = with_reply n (party_of x) (reply_told t) R

  fair : Fair parties later (told ++ t ∷ []) (n + 1) omitted answers c
  fair = fair-next cap parties past told n S R b c x t f happens

  counts : Counts parties c
  counts = counts-happens cap parties b c x t d.counts happens

  paces : (p : ℕ) (o : Open T) → c.open_call p ≡ Some o → (k : IsInCall later omitted answers p (n + 1)) → Pace later omitted answers p (n + 1) o k
  paces = pace-next cap parties past told n S R b c x t f d.counts d.paces fair happens

  -- at the end
  last_alone : (p since : ℕ) (k : IsInCall later omitted answers p (n + 1)) → k.first ≤ since → IsAloneBetween later omitted answers p since (n + 1) → steps_between later p since (n + 1) < STEPS_ALONE
  last_alone p since k from quiet =
      let at = some-open (c.open_call p) (λ none. fair.outside p none k) in
      let few = counts.alone p at.0 at.1 in
      let taken = (paces p at.0 at.1 k).alone since from quiet in
      let all = steps-all later p since (n + 1) fair.len in
      omega arith

  last_wait_free : (p : ℕ) (k : IsInCall later omitted answers p (n + 1)) → is_wait_free k.call ≡ true → steps_between later p k.first (n + 1) < WAIT_FREE_STEPS
  last_wait_free p k is =
      let at = some-open (c.open_call p) (λ none. fair.outside p none k) in
      let pace = paces p at.0 at.1 k in
      let few = counts.wait_free p at.0 at.1 (ap is_wait_free (sym pace.same_call) ∙ is) in
      let taken = pace.steps k.first (omega arith) in
      let all = steps-all later p k.first (n + 1) fair.len in
      omega arith

  alone : (m p since : ℕ) (k : IsInCall later omitted answers p m) → m ≤ n + 1 → k.first ≤ since → IsAloneBetween later omitted answers p since m → steps_between later p since m < STEPS_ALONE
  alone m p since k le from quiet = elim (last-or-earlier m (n + 1) (omega arith)) [
    | inl at ↦ subst (λ i. (k : IsInCall later omitted answers p i) → k.first ≤ since → IsAloneBetween later omitted answers p since i → steps_between later p since i < STEPS_ALONE) (sym at) (last_alone p since) k from quiet
    | inr lt ↦ rw (steps-before past (x ∷ []) p since m (omega (arith, len))) (
        d.alone m p since (earlier-before T past x S R n (party_of x) (is_skipped t) (reply_told t) f.len f.early p m (omega arith) k) (omega arith) from
        (λ q i ne low high in_call. quiet q i ne low high (earlier-now T past x S R n (party_of x) (is_skipped t) (reply_told t) f.len f.early q i (omega arith) in_call))
        )
  ]

  wait_free : (m p : ℕ) (k : IsInCall later omitted answers p m) → m ≤ n + 1 → is_wait_free k.call ≡ true → steps_between later p k.first m < WAIT_FREE_STEPS
  wait_free m p k le is = elim (last-or-earlier m (n + 1) (omega arith)) [
    | inl at ↦ subst (λ i. (k : IsInCall later omitted answers p i) → is_wait_free k.call ≡ true → steps_between later p k.first i < WAIT_FREE_STEPS) (sym at) (last_wait_free p) k is
    | inr lt ↦ rw (steps-before past (x ∷ []) p k.first m (omega (arith, len))) (d.wait_free m p (earlier-before T past x S R n (party_of x) (is_skipped t) (reply_told t) f.len f.early p m (omega arith) k) (omega arith) is)
  ]

  paced-next : Paced parties later (told ++ t ∷ []) (n + 1) omitted answers c
  paced-next = record { fair = fair; counts = counts; paces = paces; alone = alone; wait_free = wait_free }

paced-first : (T : Type 0) (cap : Option ℕ) (parties : ℕ) → Paced {T = T} parties [] [] 0 [] [] (opening cap)
paced-first T cap parties = record {
  fair = fair-first T cap parties;
  counts = counts-first T cap parties;
  paces = λ p o e. cc;
  alone = λ m p since k le. let before = k.before in absurd (omega arith);
  wait_free = λ m p k le. let before = k.before in absurd (omega arith);
}

record Whole {T : Type 0} (parties : ℕ) (events : List (Event T)) (told : List (Told T)) (c : Book T) : Type 0 where
  n : ℕ
  S : List ℕ
  R : List (ℕ × ℕ × Reply T)
  paced : Paced parties events told n S R c

run-paced : {T : Type 0} (cap : Option ℕ) (parties : ℕ) (past es : List (Event T)) (told ts : List (Told T)) (n : ℕ) (S : List ℕ) (R : List (ℕ × ℕ × Reply T)) (b c : Book T) → Paced parties past told n S R b → Run cap parties b es ts c → Whole parties (past ++ es) (told ++ ts) c
run-paced cap parties past [] told [] n S R b c d run = rw (append-nil past, append-nil told, run) (record { n = n; S = S; R = R; paced = d })
run-paced cap parties past (x ∷ es) told (t ∷ ts) n S R b c d run =
    let rest = run-paced cap parties (past ++ x ∷ []) es (told ++ t ∷ []) ts (n + 1) (noted n (is_skipped t) S) (with_reply n (party_of x) (reply_told t) R) run.0 c (paced-next _ cap parties past told n S R b run.0 x t d run.1) run.2 in
    rw (append_assoc past (x ∷ []) es, append_assoc told (t ∷ []) ts) at rest
run-paced cap parties past es told ts n S R b c d run = absurd run

whole-paced : {T A : Type 0} (cap : Option ℕ) (parties : ℕ) (events : List (Event T)) (r : Replay T A) (c : Conforms cap parties events r) → Paced parties events c.told (length events) r.skipped.items r.replies.items c.last
whole-paced {T} cap parties events r c =
    let whole = run-paced cap parties [] events [] c.told 0 [] [] (opening cap) c.last (paced-first T cap parties) c.run in
    rw (← whole.paced.fair.len, c.skipped ∙ sym whole.paced.fair.skipped, c.replies ∙ sym whole.paced.fair.replies) whole.paced

pub calls_alone : {T A : Type 0} → CallsAloneReply T A
calls_alone cap parties events r c p since last k le from quiet = (whole-paced cap parties events r c).alone last p since k le from quiet

pub wait_free_calls : {T A : Type 0} → WaitFreeCallsReply T A
wait_free_calls cap parties events r c p last k le is = (whole-paced cap parties events r c).wait_free last p k le is
