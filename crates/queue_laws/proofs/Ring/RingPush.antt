-- The steps of a push into a ring, as far as it displaces nothing.
use Rattle.std.proofs.Common.{ℕ, ◌+◌, ◌-◌, ◌%◌, ◌<◌, ◌≡◌, ◌≢◌, ◌==◌, ◌||◌, not, ◌∙◌, ◌⊎◌, inl, inr, Bool, true, false, if◌then◌else◌, Some, List, [], ◌∷◌, refl, sym, ap, arith, get_or}
use Rattle.std.proofs.lemmas.Bool.Decides.{eqb_tells}
use Rattle.queue_laws.specs.{Common.Vocabulary.Word, Common.Vocabulary.Op, Common.Vocabulary.Local, Common.Vocabulary.PushKind, Common.Vocabulary.LIMIT, Common.Pushes.pushes, Ring.RingShared.Shared, Ring.RingWords.Codes, Ring.RingWords.stamp_in, Common.Stand.brings}
use Rattle.queue_laws.specs.Ring.RingCells.{Free, Full, Ring, queue_of, RingOk, HoldsNone}
use Rattle.queue_laws.specs.Ring.RingAt.{FullAt, SawTail, push_tail, push_stamp, claiming, push_head, displacing, spending}
use Rattle.queue_steps.specs.{State.State, Words.IsWord, Words.position_of, Words.is_shut, Words.tail_of, Words.slot_at, Words.stamp_free, Words.stamp_filled, RingNext.tail_found, RingNext.push_stamp_found, RingNext.lap_found, declared.steps.ring.RingLocal.RingLocal as ring}
use Rattle.queue_laws.proofs.{Common.Tails.position_tail, Common.Tails.shut_tail, Common.Pushes.closed_push, Common.Pushes.not_wait_free, Ring.RingCells.wraps, Ring.RingTransitions.in_ring, Ring.RingWords.word_small, Ring.RingRanks.pick, Ring.RingStepOk.IsCalm, Ring.RingStepOk.Stays}
use Rattle.queue_laws.proofs.Ring.{RingStepOk.StepOk, RingStepOk.still, RingStepOk.opened_now, RingStepOk.saw_own, RingSlots.stamp_free_at, RingSlots.stamp_full_at, RingSlots.stamp_small, RingSlots.stamp_lapped, RingSlots.nobody, RingSlots.tail_slot}

pub tail_word : {A : Type 0} (cap : ℕ) (r : Ring A) (s : Shared A) → RingOk cap r → Codes cap r s → IsWord s.tail
tail_word cap r s ok codes = let a : position_of s.tail ≡ r.tail = ap position_of codes.tail ∙ position_tail r.tail r.closed in let b = ok.most in word_small s.tail (omega arith)

pub saw_word : {A : Type 0} (cap : ℕ) (r : Ring A) (t : ℕ) (ms : List (State A)) (was : Bool) → SawTail cap r t ms was → IsWord t
saw_word cap r t ms was saw = let b = saw.below in word_small t (omega arith)

module _ {A : Type 0} {cap : ℕ} {r : Ring A} (who : ℕ) (ms : List (State A)) (was : Bool) (ok : RingOk cap r) where
  -- after a tail that a push found
  pub tail_goes : (d : PushKind) (v : A) (x n : ℕ) → HoldsNone r.cells who → x ≡ tail_of r.tail r.closed → 4 < n
      → Stays cap r who ms was (tail_found cap d x) (Some v) (pushes d v) [] n
  tail_goes d v x n none tail more =
      go (is_shut x) refl (eqb_tells (position_of x) LIMIT)
    where
      at_tail : position_of x ≡ r.tail
      at_tail = ap position_of tail ∙ position_tail r.tail r.closed

      shut : is_shut x ≡ r.closed
      shut = ap is_shut tail ∙ shut_tail r.tail r.closed

      go : (b : Bool) → is_shut x ≡ b → (((position_of x == LIMIT) ≡ true) × (position_of x ≡ LIMIT)) ⊎ (((position_of x == LIMIT) ≡ false) × (position_of x ≢ LIMIT))
          → Stays cap r who ms was (tail_found cap d x) (Some v) (pushes d v) [] n
      go true e limit = let y = closed_push d v in rw e (none, refl, (y.0, y.1, y.2, λ _. inl (y.4 (queue_of cap r) (sym shut ∙ e))))
      go false e (inl h) = rw (e, h.0) (spending d v none (let l = h.1 in let a = at_tail in omega arith), λ calm. omega arith)
      go false e (inr h) =
          let opened : r.closed ≡ false = sym shut ∙ e in
          let a = at_tail in
          let most = ok.most in
          let ne = h.1 in
          rw (e, h.0) (
            push_stamp d v x none (record {
              unshut = e;
              below = omega arith;
              behind = omega arith;
              moment = inl (refl, opened, sym at_tail, (let c = ok.count in omega arith), (let c = ok.count in let room = ok.room in omega arith));
              opened = opened_now was r.closed opened;
            }),
            λ calm. rw (pick (position_of x) r.tail 4 7 at_tail) more,
          )

module _ {A : Type 0} {cap : ℕ} {r : Ring A} {who : ℕ} {s : Shared A} {ms : List (State A)} {was : Bool} (ok : RingOk cap r) (codes : Codes cap r s) where
  pub good_push_tail : (d : PushKind) (v : A)
      → HoldsNone r.cells who
      → StepOk cap r who s ms was (brings (Local.Ring (ring.PushTail d)) (Op.Load Word.Tail) d v)
  good_push_tail d v none =
      still ok codes tt refl
      (ok.ring, tail_word cap r s ok codes) refl (tail_goes who ms was ok d v s.tail 5 none codes.tail (omega arith))

  -- after the stamp of the slot of the tail that it read
  stamp_goes : (d : PushKind) (v : A) (t stamp : ℕ) → HoldsNone r.cells who → SawTail cap r t ms was → stamp ≡ stamp_in (r.cells (position_of t % cap))
      → Stays cap r who ms was (push_stamp_found cap d t stamp) (Some v) (pushes d v) [] (if position_of t == r.tail then 4 else 7)
  stamp_goes d v t stamp none saw is =
      go (eqb_tells stamp (stamp_free (position_of t))) (eqb_tells (stamp + cap) (stamp_filled (position_of t)))
    where
      own : SawTail cap r t (queue_of cap r ∷ ms) (was || not r.closed)
      own = saw_own cap r t ms was (not r.closed) (queue_of cap r) saw

      -- where the tail is still there and nobody holds a slot, the stamp is one of these two
      fresh : position_of t ≡ r.tail → ((other : ℕ) → HoldsNone r.cells other) → (stamp ≡ position_of t) ⊎ ((stamp + cap ≡ position_of t + 1) × (r.head + cap ≡ position_of t))
      fresh e all = at_slot (tail_slot cap r ok all)
        where
          at_slot : (r.cells (r.tail % cap) ≡ Free r.tail) ⊎ ((r.head + cap ≡ r.tail) × ((x : A) × (r.cells (r.tail % cap) ≡ Full r.head x)))
              → (stamp ≡ position_of t) ⊎ ((stamp + cap ≡ position_of t + 1) × (r.head + cap ≡ position_of t))
          at_slot (inl free) = inl (is ∙ (ap (λ n. stamp_in (r.cells (n % cap))) e ∙ (ap stamp_in free ∙ sym e)))
          at_slot (inr full) =
              let a : stamp ≡ r.head + 1 = is ∙ (ap (λ n. stamp_in (r.cells (n % cap))) e ∙ ap stamp_in full.1.1) in
              let b = full.0 in
              inr (omega arith, omega arith)

      -- fewer steps are before the call, where the slot told something
      falls : (a b : ℕ) → a < 4 → b < 7 → (if position_of t == r.tail then a else b) < (if position_of t == r.tail then 4 else 7)
      falls a b la lb = elim (position_of t == r.tail) as (λ t. (if t then a else b) < (if t then 4 else 7)) [ true ↦ la | false ↦ lb ]

      full_falls : (a : ℕ) → a < 4 → stamp ≢ position_of t → IsCalm r who (pushes d v) → (if r.head + cap == position_of t then a else 6) < (if position_of t == r.tail then 4 else 7)
      full_falls a la ne calm = at_tail (eqb_tells (position_of t) r.tail)
        where
          at_tail : (((position_of t == r.tail) ≡ true) × (position_of t ≡ r.tail)) ⊎ (((position_of t == r.tail) ≡ false) × (position_of t ≢ r.tail))
              → (if r.head + cap == position_of t then a else 6) < (if position_of t == r.tail then 4 else 7)
          at_tail (inl h) = rw h.0 (full_now (fresh h.1 (nobody r who none (calm (not_wait_free d v)))))
            where
              full_now : (stamp ≡ position_of t) ⊎ ((stamp + cap ≡ position_of t + 1) × (r.head + cap ≡ position_of t)) → (if r.head + cap == position_of t then a else 6) < 4
              full_now (inl e) = absurd (ne e)
              full_now (inr e) = rw (pick (r.head + cap) (position_of t) a 6 e.1) la
          at_tail (inr h) = rw h.0 (elim (r.head + cap == position_of t) as (λ t. (if t then a else 6) < 7) [ true ↦ omega arith | false ↦ omega arith ])

      full_at : stamp + cap ≡ position_of t + 1 → (h : ℕ) × (h + cap ≡ position_of t) × FullAt cap r h
      full_at e =
          let low = stamp_lapped cap r (position_of t) ok (sym (ap (λ n. n + cap) is) ∙ e) in
          let h : ℕ = position_of t - cap in
          let back : h + cap ≡ position_of t = omega arith in
          let slot : position_of t % cap ≡ h % cap = ap (λ n. n % cap) (sym back) ∙ wraps h cap in
          let there : stamp_in (r.cells (h % cap)) ≡ h + 1 = ap (λ n. stamp_in (r.cells n)) (sym slot) ∙ (sym is ∙ (let f : stamp ≡ h + 1 = omega arith in f)) in
          (h, back, stamp_full_at cap r h ok there)

      go : (((stamp == stamp_free (position_of t)) ≡ true) × (stamp ≡ stamp_free (position_of t))) ⊎ (((stamp == stamp_free (position_of t)) ≡ false) × (stamp ≢ stamp_free (position_of t)))
          → (((stamp + cap == stamp_filled (position_of t)) ≡ true) × (stamp + cap ≡ stamp_filled (position_of t))) ⊎ (((stamp + cap == stamp_filled (position_of t)) ≡ false) × (stamp + cap ≢ stamp_filled (position_of t)))
          → Stays cap r who ms was (push_stamp_found cap d t stamp) (Some v) (pushes d v) [] (if position_of t == r.tail then 4 else 7)
      go (inl a) b =
          rw a.0 (claiming d v t none own (stamp_free_at cap r (position_of t) ok saw.behind (sym is ∙ a.1)), λ calm. falls 2 5 (omega arith) (omega arith))
      go (inr a) (inl b) = rw (a.0, b.0) (lap d full_falls)
        where
          lap : (d : PushKind) → ((a : ℕ) → a < 4 → stamp ≢ position_of t → IsCalm r who (pushes d v) → (if r.head + cap == position_of t then a else 6) < (if position_of t == r.tail then 4 else 7))
              → Stays cap r who ms was (lap_found cap d t) (Some v) (pushes d v) [] (if position_of t == r.tail then 4 else 7)
          lap PushKind.Push falls = (push_head v t none own, λ calm. falls 1 (omega arith) a.1 calm)
          lap PushKind.Force falls = let f = full_at b.1 in (displacing v t f.0 none own f.1 f.2, λ calm. falls 3 (omega arith) a.1 calm)
      go (inr a) (inr b) =
          rw (a.0, b.0) (push_tail d v none, λ calm. again (eqb_tells (position_of t) r.tail) calm)
        where
          again : (((position_of t == r.tail) ≡ true) × (position_of t ≡ r.tail)) ⊎ (((position_of t == r.tail) ≡ false) × (position_of t ≢ r.tail))
              → IsCalm r who (pushes d v) → 5 < (if position_of t == r.tail then 4 else 7)
          again (inl h) calm = elim (fresh h.1 (nobody r who none (calm (not_wait_free d v)))) [ inl e ↦ absurd (a.1 e) | inr e ↦ absurd (b.1 e.0) ]
          again (inr h) calm = rw h.0 (omega arith)

  pub good_push_stamp : (d : PushKind) (v : A) (t : ℕ)
      → HoldsNone r.cells who → SawTail cap r t ms was
      → StepOk cap r who s ms was (brings (Local.Ring (ring.PushStamp d t)) (Op.Load (Word.Stamp (slot_at cap (position_of t)))) d v)
  good_push_stamp d v t none saw =
      let i = position_of t % cap in
      let lt : i < cap = in_ring cap (position_of t) ok.ring in
      let is : get_or s.stamps i 0 ≡ stamp_in (r.cells i) = codes.stamp i lt in
      still ok codes
      (rw codes.stamped lt) refl (
        ok.ring,
        record {
          tail_word = saw_word cap r t ms was saw;
          stamp_word = rw is (stamp_small cap r i ok lt);
          lapped = λ e. stamp_lapped cap r (position_of t) ok (sym (ap (λ n. n + cap) is) ∙ e);
        },
      ) refl
      (stamp_goes d v t (get_or s.stamps i 0) none saw is)
