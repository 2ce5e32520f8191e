-- The later steps of a push into a ring: the exchange of the tail, the write, the answer of a full queue, and the mark of a spent one.
use Rattle.std.proofs.Common.{ℕ, ◌+◌, ◌%◌, ◌<◌, ◌≤◌, ◌≡◌, ◌≢◌, ◌==◌, ◌||◌, not, ◌∙◌, ◌⊎◌, inl, inr, Bool, true, false, if◌then◌else◌, Some, None, Err, List, [], ◌∷◌, length, refl, sym, ap, subst, arith, get_or}
use Rattle.std.proofs.lemmas.Bool.{eq-eqb, Decides.eqb_tells}
use Rattle.queue_laws.specs.Common.Vocabulary.{Call, Reply, Effect, PushError, Word, Op, Touch, Local, Next, PushKind, LIMIT, MARK, TAIL_STEP}
use Rattle.queue_steps.specs.{State.State, Replies.IsRightAt, Words.IsWord, Words.position_of, Words.is_shut, Words.tail_of, Words.slot_at, Words.stamp_filled, RingNext.loads, RingNext.ends, RingNext.tail_found, declared.steps.ring.RingLocal.RingLocal as ring}
use Rattle.queue_laws.proofs.{Common.Tails.shut_tail, Common.Tails.next_tail, Common.Tails.same_tail, Common.Tails.open_tail, Common.Moments.seen_map, Common.Pushes.closed_push, Common.Pushes.appended_push, Ring.RingCells.claims, Ring.RingCells.lets_go, Ring.RingTransitions.in_ring}
use Rattle.queue_laws.proofs.Ring.{RingTransitions.append_ok, RingTransitions.write_ok, RingTransitions.not_slot, RingPasses.passes_append, RingPasses.passes_written, RingWords.head_small, RingHands.Claims, RingHands.Returns, RingRanks.pick, RingStepOk.NextOk, RingStepOk.Stays, RingStepOk.StepOk}
use Rattle.queue_laws.proofs.Ring.{RingStepOk.still, RingStepOk.marks, RingStepOk.marks_closed, RingSlots.codes_claim, RingSlots.codes_store, RingPush.tail_goes, RingPush.tail_word, RingPush.saw_word}
use Rattle.queue_laws.specs.{Common.Pushes.pushes, Ring.RingShared.Shared, Ring.RingTransitions.appended, Ring.RingTransitions.written, Ring.RingTransitions.marked, Ring.RingWords.Codes, Ring.RingWords.item_in, Common.Stand.brings}
use Rattle.queue_laws.specs.Ring.RingAt.{TailWas, FreeAt, SawTail, stores, push_tail, filling}
use Rattle.queue_laws.specs.Ring.RingCells.{Free, Written, Full, Ring, queue_of, RingOk, owner, HoldsNone, HoldsOne}

module _ {A : Type 0} {cap : ℕ} {r : Ring A} {who : ℕ} {s : Shared A} {ms : List (State A)} {was : Bool} (ok : RingOk cap r) (codes : Codes cap r s) where
  pub good_claiming : (d : PushKind) (v : A) (t : ℕ)
      → HoldsNone r.cells who → SawTail cap r t ms was → FreeAt cap r (position_of t)
      → StepOk cap r who s ms was (brings (Local.Ring (ring.Claiming d t)) (Op.Exchange Word.Tail t (t + TAIL_STEP)) d v)
  good_claiming d v t none saw free = go (eqb_tells s.tail t)
    where
      words : IsWord t × IsWord s.tail
      words = (saw_word cap r t ms was saw, tail_word cap r s ok codes)

      won : (s.tail == t) ≡ true → s.tail ≡ t → StepOk cap r who s ms was (brings (Local.Ring (ring.Claiming d t)) (Op.Exchange Word.Tail t (t + TAIL_STEP)) d v)
      won test e =
          let same = same_tail r.tail r.closed t saw.unshut (sym codes.tail ∙ e) in
          let at : r.tail ≡ position_of t = same.1 in
          let low = saw.below in
          let is : r.cells (r.tail % cap) ≡ Free r.tail = elim free.1 [ inl lt ↦ absurd (omega arith) | inr f ↦ subst (λ q. r.cells (q % cap) ≡ Free q) (sym at) f ] in
          let good = append_ok cap r who v ok same.0 (omega arith) is in
          record {
            after = appended cap r who v;
            e = Some (Effect.Append v);
            touches = tt;
            operates = tt;
            goes_on = (ok.ring, words);
            ok = good.1;
            codes = rw test (codes_claim cap r (appended cap r who v) s s.head (t + TAIL_STEP) (r.tail % cap) (Free r.tail) (Written r.tail who v) codes is refl refl refl codes.head
                (ap (λ n. n + TAIL_STEP) (sym e ∙ codes.tail) ∙ next_tail r.tail r.closed));
            told = rw test (v, refl);
            makes = (good.0, refl);
            passes = passes_append cap r who v is;
            shift = Claims (r.tail % cap) (Written r.tail who v) (in_ring cap r.tail ok.ring) refl none (ap owner is) refl (ap item_in (sym is)) refl;
            goes = rw test (subst (λ q. NextOk cap r (appended cap r who v) who (queue_of cap (appended cap r who v) ∷ ms) (was || not r.closed)
                (Next.Step (Local.Ring (ring.Filling d)) (Touch.Put (slot_at cap q)) (Op.Store (Word.Stamp (slot_at cap q)) (stamp_filled q))) (Some v) (pushes d v) (Effect.Append v ∷ []) (if position_of t == r.tail then 2 else 5)) at
                (filling d v r.tail (claims r.cells who (r.tail % cap) (Written r.tail who v) none), λ calm. rw (pick (position_of t) r.tail 2 5 (sym at)) (omega arith)));
          }

      go : (((s.tail == t) ≡ true) × (s.tail ≡ t)) ⊎ (((s.tail == t) ≡ false) × (s.tail ≢ t))
          → StepOk cap r who s ms was (brings (Local.Ring (ring.Claiming d t)) (Op.Exchange Word.Tail t (t + TAIL_STEP)) d v)
      go (inl h) = won h.0 h.1
      go (inr h) =
          still ok codes tt (rw h.0 refl)
          (ok.ring, words) (rw h.0 refl)
          (rw h.0 (stale (eqb_tells (position_of t) r.tail)))
        where
          -- where the tail stands where it did, it was marked, and the call ends
          stale : (((position_of t == r.tail) ≡ true) × (position_of t ≡ r.tail)) ⊎ (((position_of t == r.tail) ≡ false) × (position_of t ≢ r.tail))
              → Stays cap r who ms was (tail_found cap d s.tail) (Some v) (pushes d v) [] (if position_of t == r.tail then 2 else 5)
          stale (inl e) = rw e.0 (marked_goes r.closed refl)
            where
              marked_goes : (c : Bool) → r.closed ≡ c → Stays cap r who ms was (tail_found cap d s.tail) (Some v) (pushes d v) [] 2
              marked_goes true c =
                  let shut : is_shut s.tail ≡ true = ap is_shut codes.tail ∙ (shut_tail r.tail r.closed ∙ c) in
                  let y = closed_push d v in
                  rw shut (none, refl, (y.0, y.1, y.2, λ _. inl (y.4 (queue_of cap r) c)))
              marked_goes false c =
                  let f : t ≡ tail_of (position_of t) false = open_tail t saw.unshut in
                  absurd (h.1 (codes.tail ∙ (ap (λ b. tail_of r.tail b) c ∙ (ap (λ q. tail_of q false) (sym e.1) ∙ sym f))))
          stale (inr e) = rw e.0 (tail_goes who ms was ok d v s.tail 5 none codes.tail (omega arith))

  pub good_filling : (d : PushKind) (v : A) (q : ℕ)
      → HoldsOne r.cells who (q % cap) (Written q who v)
      → StepOk cap r who s ms was (stores (ring.Filling d) Touch.Put (slot_at cap q) (stamp_filled q) (Some v) (pushes d v) (Effect.Append v ∷ []))
  good_filling d v q one =
      let i = q % cap in
      let lt : i < cap = in_ring cap q ok.ring in
      let hand : get_or s.slots i None ≡ None = codes.slot i lt ∙ ap item_in one.0 in
      let y = appended_push d v in
      record {
        after = written r i (Full q v);
        e = None;
        touches = rw codes.slotted lt;
        operates = rw codes.stamped lt;
        goes_on = (ok.ring, tt);
        ok = write_ok cap r q who v ok one.0;
        codes = codes_store cap r s i (Full q v) (q + 1) (Some v) codes lt refl refl;
        told = refl;
        makes = refl;
        passes = passes_written r who i (Written q who v) (Full q v) one.0 refl refl;
        shift = Returns i (Full q v) lt refl (ap owner one.0) refl refl refl;
        goes = rw hand (lets_go r.cells who i (Written q who v) (Full q v) refl one, refl, (y.0, y.1, y.2, λ e. cc));
      }

  pub good_push_head : (v : A) (t : ℕ)
      → HoldsNone r.cells who → SawTail cap r t ms was
      → StepOk cap r who s ms was (brings (Local.Ring (ring.PushHead t)) (Op.Load Word.Head) PushKind.Push v)
  good_push_head v t none saw =
      still ok codes tt refl
      (ok.ring, (saw_word cap r t ms was saw, rw codes.head (head_small cap r r.head ok (omega arith)))) refl
      (rw codes.head (go (eqb_tells (r.head + cap) (position_of t))))
    where
      -- the queue was full where the tail was read: no more items had left than by now
      full_then : r.head + cap ≡ position_of t → (m : State A) → TailWas cap (position_of t) r.head m → IsRightAt m (Call.Push v) (Reply.Push (Err (PushError.Full v)))
      full_then e m was =
          let low = was.3 in
          let high = was.4 in
          let size : length m.items ≡ cap = omega arith in
          let b = saw.below in
          let at = was.2 in
          (refl, was.1, rw was.0 (eq-eqb (length m.items) cap size), inr (omega arith))

      go : (((r.head + cap == position_of t) ≡ true) × (r.head + cap ≡ position_of t)) ⊎ (((r.head + cap == position_of t) ≡ false) × (r.head + cap ≢ position_of t))
          → Stays cap r who ms was (if r.head + cap == position_of t then ends (Reply.Push (Err (PushError.Full tt))) else loads (ring.PushTail PushKind.Push) Word.Tail)
          (Some v) (Call.Push v) [] (if r.head + cap == position_of t then 1 else 6)
      go (inl h) = rw h.0 (none, refl, (Reply.Push (Err (PushError.Full v)), refl, (refl, refl), λ _. inr (seen_map ms (full_then h.1) saw.moment)))
      go (inr h) = rw h.0 (push_tail PushKind.Push v none, λ calm. omega arith)

  pub good_spending : (d : PushKind) (v : A)
      → HoldsNone r.cells who → LIMIT ≤ r.tail
      → StepOk cap r who s ms was (brings (Local.Ring (ring.ClosingAtLimit d)) (Op.Or Word.Tail MARK) d v)
  good_spending d v none high = go r.closed refl
    where
      go : (c : Bool) → r.closed ≡ c → StepOk cap r who s ms was (brings (Local.Ring (ring.ClosingAtLimit d)) (Op.Or Word.Tail MARK) d v)
      go true c =
          let shut : is_shut s.tail ≡ true = ap is_shut codes.tail ∙ (shut_tail r.tail r.closed ∙ c) in
          let y = closed_push d v in
          marks ok codes None (ok.ring, tt) (rw shut refl) (marks_closed cap r c)
          (none, refl, (y.0, y.1, y.2, λ _. inl (y.4 (queue_of cap (marked r)) refl)))
      go false c =
          let shut : is_shut s.tail ≡ false = ap is_shut codes.tail ∙ (shut_tail r.tail r.closed ∙ c) in
          let most = ok.most in
          let y = closed_push d v in
          marks ok codes (Some Effect.SelfClose) (ok.ring, tt) (rw shut refl)
          ((c, not_slot cap ok.ring, (let e : r.tail ≡ LIMIT = omega arith in e)), refl) (none, refl, (y.0, y.1, y.3, λ e. cc))
