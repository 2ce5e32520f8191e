-- The steps of a push that displaces the front of a full ring.
use Rattle.std.proofs.Common.{ℕ, ◌+◌, ◌-◌, ◌%◌, ◌^◌, ◌<◌, ◌≡◌, ◌≢◌, ◌==◌, ◌||◌, not, ◌∙◌, ◌⊎◌, inl, inr, Bool, true, false, Some, None, Ok, List, [], ◌∷◌, refl, sym, ap, subst, arith, get_or}
use Rattle.std.proofs.lemmas.Bool.{eq-eqb, ne_eqb, Decides.eqb_tells}
use Rattle.queue_laws.specs.Common.Vocabulary.{Call, Reply, Effect, Word, Op, Touch, Local, Next, PushKind, LIMIT, TAIL_STEP}
use Rattle.queue_steps.specs.{State.State, Words.IsWord, Words.position_of, Words.slot_at, Words.stamp_filled, declared.steps.ring.RingLocal.RingLocal as ring}
use Rattle.queue_laws.specs.{Common.Puts.put, Ring.RingShared.Shared, Ring.RingTransitions.fronted, Ring.RingTransitions.arrived, Ring.RingTransitions.written, Ring.RingWords.Codes, Ring.RingWords.item_in, Common.Stand.Stand, Common.Stand.stand, Common.Stand.brings}
use Rattle.queue_laws.specs.Ring.RingAt.{FullAt, SawTail, stores, push_tail, arriving, swapping}
use Rattle.queue_laws.proofs.{Common.Tails.next_tail, Ring.RingCells.wraps, Ring.RingCells.claims, Ring.RingCells.keeps_on, Ring.RingCells.lets_go, Ring.RingTransitions.in_ring, Ring.RingTransitions.front_ok, Ring.RingTransitions.arrive_ok, Ring.RingTransitions.swap_ok, Ring.RingPasses.passes_front}
use Rattle.queue_laws.proofs.Ring.{RingPasses.passes_arrive, RingPasses.passes_written, RingWords.word_small, RingWords.head_small, RingHands.Claims, RingHands.GoesOn, RingHands.Returns, RingStepOk.NextOk, RingStepOk.StepOk, RingStepOk.still, RingSlots.codes_claim, RingSlots.codes_store}
use Rattle.queue_laws.proofs.Ring.RingPush.{tail_word, saw_word}
use Rattle.queue_laws.specs.Ring.RingCells.{owner, Full, Coming, Swapped, Ring, queue_of, CellOk, RingOk, HoldsNone, HoldsOne}

abbrev displaces : {A : Type 0} → ℕ → A → ℕ → Stand A
displaces cap v t = brings (Local.Ring (ring.Displacing t)) (Op.Exchange Word.Head (position_of t - cap) (position_of t - cap + 1)) PushKind.Force v

module _ {A : Type 0} {cap : ℕ} {r : Ring A} {who : ℕ} {s : Shared A} {ms : List (State A)} {was : Bool} (ok : RingOk cap r) (codes : Codes cap r s) where
  pub good_displacing : (v : A) (t h : ℕ)
      → HoldsNone r.cells who → SawTail cap r t ms was → h + cap ≡ position_of t → FullAt cap r h
      → StepOk cap r who s ms was (displaces cap v t)
  good_displacing v t h none saw back full = go (eqb_tells r.head h)
    where
      from : position_of t - cap ≡ h
      from = omega arith

      words : IsWord t × IsWord s.head
      words = (saw_word cap r t ms was saw, rw codes.head (head_small cap r r.head ok (omega arith)))

      -- the exchange and the step after it ask the same
      tests : (b : Bool) → (r.head == h) ≡ b → (r.head ≡ h → b ≡ true) → (r.head ≢ h → b ≡ false) → ((s.head == position_of t - cap) ≡ b) × ((s.head + cap == position_of t) ≡ b) × ((r.head + cap == position_of t) ≡ b)
      tests true e yes_if no_if =
          let same : r.head ≡ h = elim (eqb_tells r.head h) [ inl x ↦ x.1 | inr x ↦ let f : true ≡ false = sym e ∙ x.0 in cc ] in
          let at = codes.head in
          (eq-eqb s.head (position_of t - cap) (omega arith), eq-eqb (s.head + cap) (position_of t) (omega arith), eq-eqb (r.head + cap) (position_of t) (omega arith))
      tests false e yes_if no_if =
          let other : r.head ≢ h = λ same. let f : true ≡ false = sym (eq-eqb r.head h same) ∙ e in cc in
          let at = codes.head in
          (ne_eqb s.head (position_of t - cap) (λ x. other (omega arith)), ne_eqb (s.head + cap) (position_of t) (λ x. other (omega arith)), ne_eqb (r.head + cap) (position_of t) (λ x. other (omega arith)))

      won : (r.head == h) ≡ true → r.head ≡ h → (x : A) → r.cells (h % cap) ≡ Full h x → StepOk cap r who s ms was (displaces cap v t)
      won test same x is_h =
          let tested = tests true test (λ e. refl) (λ ne. absurd (ne same)) in
          let is : r.cells (r.head % cap) ≡ Full r.head x = subst (λ n. r.cells (n % cap) ≡ Full n x) (sym same) is_h in
          let behind = saw.behind in
          let room = ok.room in
          let low = saw.below in
          let good = front_ok cap r who x v ok (omega arith) (omega arith) is in
          record {
            after = fronted cap r who x v;
            e = Some (Effect.Front x v);
            touches = tt;
            operates = tt;
            goes_on = (ok.ring, words);
            ok = good.1;
            codes = rw tested.0 (codes_claim cap r (fronted cap r who x v) s (position_of t - cap + 1) s.tail (r.head % cap) (Full r.head x) (Coming r.head who x v) codes is refl refl refl (omega arith) codes.tail);
            told = rw tested.1 ((x, v), refl, saw.opened);
            makes = (good.0, refl);
            passes = passes_front cap r who x v is;
            shift = Claims (r.head % cap) (Coming r.head who x v) (in_ring cap r.head ok.ring) refl none (ap owner is) refl (ap item_in (sym is)) refl;
            goes = rw (tested.1, tested.2)
                (arriving x v t h low back (subst (λ n. HoldsOne (put r.cells (r.head % cap) (Coming r.head who x v)) who (n % cap) (Coming n who x v)) same (claims r.cells who (r.head % cap) (Coming r.head who x v) none)), λ calm. omega arith);
          }

      go : (((r.head == h) ≡ true) × (r.head ≡ h)) ⊎ (((r.head == h) ≡ false) × (r.head ≢ h)) → StepOk cap r who s ms was (displaces cap v t)
      go (inl e) = filled_now full
        where
          filled_now : FullAt cap r h → StepOk cap r who s ms was (displaces cap v t)
          filled_now (inl lt) = absurd (let same = e.1 in omega arith)
          filled_now (inr (x, is)) = won e.0 e.1 x is
      go (inr e) =
          let tested = tests false e.0 (λ x. absurd (e.1 x)) (λ ne. refl) in
          still ok codes tt (rw tested.0 refl)
          (ok.ring, words) (rw tested.1 refl)
          (rw (tested.1, tested.2) (push_tail PushKind.Force v none, λ calm. omega arith))

  pub good_arriving : (old v : A) (t h : ℕ)
      → position_of t < LIMIT → h + cap ≡ position_of t → HoldsOne r.cells who (h % cap) (Coming h who old v)
      → StepOk cap r who s ms was (stand (Local.Ring (ring.Arriving t)) Touch.Nothing (Op.Add Word.Tail TAIL_STEP) (Some v) (Call.ForcePush v) (Effect.Front old v ∷ []))
  good_arriving old v t h below back one =
      let i = h % cap in
      let here : CellOk cap r.head r.tail r.items r.coming i (Coming h who old v) = rw one.0 at (ok.cell i (in_ring cap h ok.ring)) in
      let at : h + cap ≡ r.tail = here.2 in
      let good = arrive_ok cap r h who old v ok (omega arith) one.0 in
      let small = tail_word cap r s ok codes in
      let fits : (s.tail + TAIL_STEP) % 2 ^ 64 ≡ s.tail + TAIL_STEP = omega arith in
      record {
        after = arrived cap r h who old v;
        e = Some Effect.Arrive;
        touches = tt;
        operates = (tt, omega arith);
        goes_on = (ok.ring, word_small t (omega arith));
        ok = good.1;
        codes = codes_claim cap r (arrived cap r h who old v) s s.head ((s.tail + TAIL_STEP) % 2 ^ 64) i (Coming h who old v) (Swapped h who old v) codes one.0 refl refl refl codes.head (fits ∙ (ap (λ n. n + TAIL_STEP) codes.tail ∙ next_tail r.tail r.closed));
        told = refl;
        makes = (good.0, refl);
        passes = passes_arrive cap r h who old v one.0;
        shift = GoesOn i (Swapped h who old v) refl (ap owner one.0) refl (ap item_in (sym one.0)) refl;
        goes = subst (λ q. NextOk cap r (arrived cap r h who old v) who (queue_of cap (arrived cap r h who old v) ∷ ms) (was || not r.closed)
            (Next.Step (Local.Ring ring.Swapping) (Touch.Swap (slot_at cap q)) (Op.Store (Word.Stamp (slot_at cap q)) (stamp_filled q))) (Some v) (Call.ForcePush v) (Effect.Front old v ∷ Effect.Arrive ∷ []) 2) back
            (swapping old v h (keeps_on r.cells who i (Coming h who old v) (Swapped h who old v) one), λ calm. omega arith);
      }

  pub good_swapping : (old v : A) (h : ℕ)
      → HoldsOne r.cells who (h % cap) (Swapped h who old v)
      → StepOk cap r who s ms was (stores ring.Swapping Touch.Swap (slot_at cap (h + cap)) (stamp_filled (h + cap)) (Some v) (Call.ForcePush v) (Effect.Front old v ∷ Effect.Arrive ∷ []))
  good_swapping old v h one =
      subst (λ i. StepOk cap r who s ms was (stores ring.Swapping Touch.Swap i (stamp_filled (h + cap)) (Some v) (Call.ForcePush v) (Effect.Front old v ∷ Effect.Arrive ∷ [])))
      (sym (wraps h cap)) there
    where
      there : StepOk cap r who s ms was (stores ring.Swapping Touch.Swap (h % cap) (stamp_filled (h + cap)) (Some v) (Call.ForcePush v) (Effect.Front old v ∷ Effect.Arrive ∷ []))
      there =
          let i = h % cap in
          let lt : i < cap = in_ring cap h ok.ring in
          let hand : get_or s.slots i None ≡ Some old = codes.slot i lt ∙ ap item_in one.0 in
          record {
            after = written r i (Full (h + cap) v);
            e = None;
            touches = rw codes.slotted lt;
            operates = rw codes.stamped lt;
            goes_on = (ok.ring, tt);
            ok = swap_ok cap r h who old v ok one.0;
            codes = codes_store cap r s i (Full (h + cap) v) (h + cap + 1) (Some v) codes lt refl refl;
            told = refl;
            makes = refl;
            passes = passes_written r who i (Swapped h who old v) (Full (h + cap) v) one.0 refl refl;
            shift = Returns i (Full (h + cap) v) lt refl (ap owner one.0) refl refl refl;
            goes = rw hand (lets_go r.cells who i (Swapped h who old v) (Full (h + cap) v) refl one, refl, (Reply.ForcePush (Ok (Some old)), refl, inr refl, λ e. cc));
          }
