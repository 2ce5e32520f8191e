-- The steps of a pop from a ring.
use Rattle.std.proofs.Common.{ℕ, ◌+◌, ◌%◌, ◌<◌, ◌≤◌, ◌≡◌, ◌≢◌, ◌==◌, ◌∙◌, ◌⊎◌, inl, inr, Bool, true, false, if◌then◌else◌, Some, None, Ok, Err, List, [], ◌∷◌, refl, sym, ap, subst, arith, get_or}
use Rattle.std.proofs.lemmas.Bool.{ne_eqb, Decides.eqb_tells}
use Rattle.queue_steps.specs.{State.State, Words.IsWord, Words.tail_of, Words.slot_at, Words.stamp_free, Words.stamp_filled, Words.stamp_emptied, RingNext.ends, RingNext.head_found, RingNext.pop_stamp_found, RingNext.pop_tail_found, declared.steps.ring.RingLocal.RingLocal as ring}
use Rattle.queue_laws.specs.{Common.Vocabulary.Call, Common.Vocabulary.Reply, Common.Vocabulary.Effect, Common.Vocabulary.PopError, Common.Vocabulary.Word, Common.Vocabulary.Op, Common.Vocabulary.Touch, Common.Vocabulary.Local, Common.Puts.put, Ring.RingShared.Shared, Ring.RingCells.Free}
use Rattle.queue_laws.specs.Ring.{RingCells.Full, RingCells.Read, RingCells.Ring, RingCells.RingOk, RingCells.owner, RingCells.HoldsNone, RingCells.HoldsOne, RingTransitions.taken, RingTransitions.written, RingAt.FreeAt, RingAt.FullAt, RingAt.stores, RingAt.pop_head, RingAt.pop_stamp, RingAt.taking}
use Rattle.queue_laws.specs.{Ring.RingAt.emptying, Ring.RingAt.pop_tail, Ring.RingWords.Codes, Ring.RingWords.stamp_in, Ring.RingWords.item_in, Common.Stand.Stand, Common.Stand.empty_handed}
use Rattle.queue_laws.proofs.{Common.Lists.none_left, Common.Tails.position_tail, Common.Tails.shut_tail, Ring.RingCells.claims, Ring.RingCells.lets_go, Ring.RingTransitions.in_ring, Ring.RingTransitions.none_coming, Ring.RingTransitions.take_ok, Ring.RingTransitions.read_ok}
use Rattle.queue_laws.proofs.Ring.{RingPasses.passes_take, RingPasses.passes_written, RingWords.head_small, RingHands.Claims, RingHands.Returns, RingRanks.pick, RingStepOk.IsCalm, RingStepOk.Stays, RingStepOk.StepOk, RingStepOk.still}
use Rattle.queue_laws.proofs.Ring.RingSlots.{stamp_free_at, stamp_full_at, nobody, head_slot, codes_claim, codes_store}

module _ {A : Type 0} {cap : ℕ} {r : Ring A} (who : ℕ) (ms : List (State A)) (was : Bool) (ok : RingOk cap r) where
  -- after a head that a pop found
  head_goes : (x n : ℕ) → HoldsNone r.cells who → x ≡ r.head → 3 < n → Stays cap r who ms was (head_found cap x) None Call.Pop [] n
  head_goes x n none at more = (pop_stamp x none (omega arith), λ calm. rw (pick x r.head 3 6 at) more)

  -- after the stamp of the slot of the head that it read
  stamp_goes : (h stamp : ℕ) → HoldsNone r.cells who → h ≤ r.head → stamp ≡ stamp_in (r.cells (h % cap))
      → Stays cap r who ms was (pop_stamp_found h stamp) None Call.Pop [] (if h == r.head then 3 else 6)
  stamp_goes h stamp none low is =
      go (eqb_tells stamp (stamp_filled h)) (eqb_tells stamp (stamp_free h))
    where
      -- where the head is still there and nobody holds a slot, the stamp is one of these two
      fresh : h ≡ r.head → ((other : ℕ) → HoldsNone r.cells other) → ((r.tail ≡ h) × (stamp ≡ h)) ⊎ (stamp ≡ h + 1)
      fresh e all = at_slot (head_slot cap r ok all)
        where
          at_slot : (r.tail ≡ r.head) × (r.cells (r.head % cap) ≡ Free r.head) ⊎ ((x : A) × (r.cells (r.head % cap) ≡ Full r.head x)) → ((r.tail ≡ h) × (stamp ≡ h)) ⊎ (stamp ≡ h + 1)
          at_slot (inl free) = inl (free.0 ∙ sym e, is ∙ (ap (λ n. stamp_in (r.cells (n % cap))) e ∙ (ap stamp_in free.1 ∙ sym e)))
          at_slot (inr full) = inr (is ∙ (ap (λ n. stamp_in (r.cells (n % cap))) e ∙ (ap stamp_in full.1 ∙ ap (λ n. n + 1) (sym e))))

      empty_falls : stamp ≢ h + 1 → IsCalm r who Call.Pop → (if r.tail == h then 1 else 5) < (if h == r.head then 3 else 6)
      empty_falls ne calm = at_head (eqb_tells h r.head)
        where
          at_head : (((h == r.head) ≡ true) × (h ≡ r.head)) ⊎ (((h == r.head) ≡ false) × (h ≢ r.head)) → (if r.tail == h then 1 else 5) < (if h == r.head then 3 else 6)
          at_head (inl e) = rw e.0 (empty_now (fresh e.1 (nobody r who none (calm refl))))
            where
              empty_now : ((r.tail ≡ h) × (stamp ≡ h)) ⊎ (stamp ≡ h + 1) → (if r.tail == h then 1 else 5) < 3
              empty_now (inl f) = rw (pick r.tail h 1 5 f.0) (omega arith)
              empty_now (inr f) = absurd (ne f)
          at_head (inr e) = rw e.0 (elim (r.tail == h) as (λ t. (if t then 1 else 5) < 6) [ true ↦ omega arith | false ↦ omega arith ])

      go : (((stamp == stamp_filled h) ≡ true) × (stamp ≡ stamp_filled h)) ⊎ (((stamp == stamp_filled h) ≡ false) × (stamp ≢ stamp_filled h))
          → (((stamp == stamp_free h) ≡ true) × (stamp ≡ stamp_free h)) ⊎ (((stamp == stamp_free h) ≡ false) × (stamp ≢ stamp_free h))
          → Stays cap r who ms was (pop_stamp_found h stamp) None Call.Pop [] (if h == r.head then 3 else 6)
      go (inl a) b =
          rw a.0 (
            taking h none low (stamp_full_at cap r h ok (sym is ∙ a.1)),
            λ calm. elim (h == r.head) as (λ t. (if t then 2 else 4) < (if t then 3 else 6)) [ true ↦ omega arith | false ↦ omega arith ],
          )
      go (inr a) (inl b) =
          rw (a.0, b.0) (pop_tail h none low (stamp_free_at cap r h ok (let c = ok.count in omega arith) (sym is ∙ b.1)), λ calm. empty_falls a.1 calm)
      go (inr a) (inr b) =
          rw (a.0, b.0) (pop_head none, λ calm. again (eqb_tells h r.head) calm)
        where
          again : (((h == r.head) ≡ true) × (h ≡ r.head)) ⊎ (((h == r.head) ≡ false) × (h ≢ r.head)) → IsCalm r who Call.Pop → 4 < (if h == r.head then 3 else 6)
          again (inl e) calm = elim (fresh e.1 (nobody r who none (calm refl))) [ inl f ↦ absurd (b.1 f.1) | inr f ↦ absurd (a.1 f) ]
          again (inr e) calm = rw e.0 (omega arith)

abbrev takes : {A : Type 0} → ℕ → Stand A
takes h = empty_handed (Local.Ring (ring.Taking h)) (Op.Exchange Word.Head h (h + 1)) Call.Pop

module _ {A : Type 0} {cap : ℕ} {r : Ring A} {who : ℕ} {s : Shared A} {ms : List (State A)} {was : Bool} (ok : RingOk cap r) (codes : Codes cap r s) where
  pub good_pop_head : HoldsNone r.cells who
      → StepOk cap r who s ms was (empty_handed (Local.Ring ring.PopHead) (Op.Load Word.Head) Call.Pop)
  good_pop_head none =
      still ok codes tt refl
      (ok.ring, rw codes.head (head_small cap r r.head ok (omega arith))) refl (head_goes who ms was ok s.head 4 none codes.head (omega arith))

  pub good_pop_stamp : (h : ℕ)
      → HoldsNone r.cells who → h ≤ r.head
      → StepOk cap r who s ms was (empty_handed (Local.Ring (ring.PopStamp h)) (Op.Load (Word.Stamp (slot_at cap h))) Call.Pop)
  good_pop_stamp h none low =
      let i = h % cap in
      let lt : i < cap = in_ring cap h ok.ring in
      still ok codes (rw codes.stamped lt) refl
      (ok.ring, head_small cap r h ok low) refl
      (stamp_goes who ms was ok h (get_or s.stamps i 0) none low (codes.stamp i lt))

  pub good_taking : (h : ℕ)
      → HoldsNone r.cells who → h ≤ r.head → FullAt cap r h
      → StepOk cap r who s ms was (takes h)
  good_taking h none low full = go (eqb_tells s.head h)
    where
      words : IsWord h × IsWord s.head
      words = (head_small cap r h ok low, rw codes.head (head_small cap r r.head ok (omega arith)))

      won : (s.head == h) ≡ true → s.head ≡ h → (x : A) → r.cells (h % cap) ≡ Full h x → StepOk cap r who s ms was (takes h)
      won test same x is_h =
          let at : r.head ≡ h = sym codes.head ∙ same in
          let is : r.cells (r.head % cap) ≡ Full r.head x = subst (λ n. r.cells (n % cap) ≡ Full n x) (sym at) is_h in
          let good = take_ok cap r who x ok is in
          record {
            after = taken cap r who x;
            e = Some (Effect.Take x);
            touches = tt;
            operates = tt;
            goes_on = (ok.ring, words);
            ok = good.1;
            codes = rw test (codes_claim cap r (taken cap r who x) s (h + 1) s.tail (r.head % cap) (Full r.head x) (Read r.head who x) codes is refl refl refl (omega arith) codes.tail);
            told = rw test (x, refl);
            makes = (good.0, refl);
            passes = passes_take cap r who x is;
            shift = Claims (r.head % cap) (Read r.head who x) (in_ring cap r.head ok.ring) refl none (ap owner is) refl (ap item_in (sym is)) refl;
            goes = rw test (
              emptying x h (subst (λ n. HoldsOne (put r.cells (r.head % cap) (Read r.head who x)) who (n % cap) (Read n who x)) at (claims r.cells who (r.head % cap) (Read r.head who x) none)),
              λ calm. rw (pick h r.head 2 4 (sym at)) (omega arith),
            );
          }

      go : (((s.head == h) ≡ true) × (s.head ≡ h)) ⊎ (((s.head == h) ≡ false) × (s.head ≢ h)) → StepOk cap r who s ms was (takes h)
      go (inl e) = filled_now full
        where
          filled_now : FullAt cap r h → StepOk cap r who s ms was (takes h)
          filled_now (inl lt) = absurd (let at = codes.head in let same = e.1 in omega arith)
          filled_now (inr (x, is)) = won e.0 e.1 x is
      go (inr e) =
          let other : (h == r.head) ≡ false = ne_eqb h r.head (λ same. e.1 (codes.head ∙ sym same)) in
          still ok codes tt (rw e.0 refl)
          (ok.ring, words) (rw e.0 refl)
          (rw (e.0, other) (head_goes who ms was ok s.head 4 none codes.head (omega arith)))

  pub good_emptying : (x : A) (h : ℕ)
      → HoldsOne r.cells who (h % cap) (Read h who x)
      → StepOk cap r who s ms was (stores ring.Emptying Touch.Take (slot_at cap h) (stamp_emptied cap h) None Call.Pop (Effect.Take x ∷ []))
  good_emptying x h one =
      let i = h % cap in
      let lt : i < cap = in_ring cap h ok.ring in
      let hand : get_or s.slots i None ≡ Some x = codes.slot i lt ∙ ap item_in one.0 in
      record {
        after = written r i (Free (h + cap));
        e = None;
        touches = rw codes.slotted lt;
        operates = rw codes.stamped lt;
        goes_on = (ok.ring, tt);
        ok = read_ok cap r h who x ok one.0;
        codes = codes_store cap r s i (Free (h + cap)) (h + cap) None codes lt refl refl;
        told = refl;
        makes = refl;
        passes = passes_written r who i (Read h who x) (Free (h + cap)) one.0 refl refl;
        shift = Returns i (Free (h + cap)) lt refl (ap owner one.0) refl refl refl;
        goes = rw hand (lets_go r.cells who i (Read h who x) (Free (h + cap)) refl one, refl, (Reply.Pop (Ok x), refl, refl, λ e. cc));
      }

  pub good_pop_tail : (h : ℕ)
      → HoldsNone r.cells who → h ≤ r.head → FreeAt cap r h
      → StepOk cap r who s ms was (empty_handed (Local.Ring (ring.PopTail h)) (Op.Load Word.Tail) Call.Pop)
  good_pop_tail h none low free =
      still ok codes tt refl
      (ok.ring, tt) refl
      (subst (λ x. Stays cap r who ms was (pop_tail_found h x) None Call.Pop [] (if r.tail == h then 1 else 5)) (sym codes.tail) (go (eqb_tells r.tail h)))
    where
      -- nothing is in the ring, and nothing on its way in: its tail is where its slot was seen free
      empty : r.tail ≡ h → (r.items ≡ []) × (r.coming ≡ None)
      empty e =
          let count = ok.count in
          let is : r.cells (r.tail % cap) ≡ Free r.tail = elim free.1 [ inl lt ↦ absurd (omega arith) | inr f ↦ subst (λ n. r.cells (n % cap) ≡ Free n) (sym e) f ] in
          (none_left r.items (omega arith), none_coming cap r ok is)

      go : (((r.tail == h) ≡ true) × (r.tail ≡ h)) ⊎ (((r.tail == h) ≡ false) × (r.tail ≢ h))
          → Stays cap r who ms was (pop_tail_found h (tail_of r.tail r.closed)) None Call.Pop [] (if r.tail == h then 1 else 5)
      go (inl e) = rw (position_tail r.tail r.closed, shut_tail r.tail r.closed, e.0) (ends_with r.closed refl)
        where
          ends_with : (c : Bool) → r.closed ≡ c → Stays cap r who ms was (ends (Reply.Pop (Err (if c then PopError.Closed else PopError.Empty)))) None Call.Pop [] 1
          ends_with true c = (none, refl, (Reply.Pop (Err PopError.Closed), refl, refl, λ _. inl ((empty e.1).0, (empty e.1).1, c)))
          ends_with false c = (none, refl, (Reply.Pop (Err PopError.Empty), refl, refl, λ _. inl ((empty e.1).0, (empty e.1).1, c)))
      go (inr e) = rw (position_tail r.tail r.closed, e.0) (pop_head none, λ calm. omega arith)
