-- The steps of the calls that look at a ring, and of its close.
use Rattle.std.proofs.Common.{ℕ, ◌+◌, ◌-◌, ◌*◌, ◌%◌, ◌<◌, ◌≤◌, ◌≡◌, ◌≢◌, ◌==◌, not, ◌∙◌, ◌⊎◌, inl, inr, Bool, true, false, if◌then◌else◌, Some, None, List, [], ◌∷◌, length, refl, sym, ap, arith}
use Rattle.std.proofs.lemmas.Bool.{eq-eqb, ne_eqb, Decides.eqb_tells}
use Rattle.queue_steps.specs.{State.State, State.is_full, Replies.is_empty, Words.position_of, Words.is_shut, Words.tail_of, RingNext.loads, RingNext.ends, RingNext.ring_begin, Kinds.call_kind, declared.steps.ring.RingLocal.RingLocal as ring}
use Rattle.queue_steps.specs.Looks.{IsLook, call_of_look, reply_of_look, IsCount}
use Rattle.queue_steps.proofs.LookLaws.{reply_filled, reply_tells, reply_right, count_waits}
use Rattle.queue_laws.specs.{Common.Moments.HasItems, Common.Moments.HeadWas, Common.Moments.SeenIn, Ring.RingShared.Shared, Ring.RingCells.Ring, Ring.RingCells.queue_of, Ring.RingCells.RingOk, Ring.RingCells.HoldsNone, Ring.RingWords.Codes, Common.Stand.empty_handed}
use Rattle.queue_laws.specs.Common.Vocabulary.{Call, Reply, Effect, Word, Op, Look, Local, MARK}
use Rattle.queue_laws.proofs.{Common.Tails.position_tail, Common.Tails.shut_tail, Common.Moments.seen_map, Ring.RingWords.head_small, Ring.RingRanks.pick, Ring.RingStepOk.Stays, Ring.RingStepOk.StepOk, Ring.RingStepOk.still, Ring.RingStepOk.marks, Ring.RingStepOk.marks_closed}
use Rattle.queue_laws.specs.Ring.RingAt.{HasRoom, SawEmpty, SawFull, Begun, count_tail, count_head, count_again, empty_head, empty_tail, full_tail, full_head, closed_tail}

no_items : {A : Type 0} (xs : List A) → length xs ≡ 0 → is_empty xs ≡ true
no_items [] e = refl
no_items (x ∷ xs) e = absurd (omega arith)

some_items : {A : Type 0} (xs : List A) → 0 < length xs → is_empty xs ≡ false
some_items [] e = absurd (omega arith)
some_items (x ∷ xs) e = refl

-- where a call that changes nothing begins
pub look_first : {A : Type 0} (cap : ℕ) (r : Ring A) (who : ℕ) (c : Call A) → IsLook c → HoldsNone r.cells who → Begun cap r who c (ring_begin cap (call_kind c))
look_first cap r who (Call.Push v) is none = absurd is
look_first cap r who (Call.ForcePush v) is none = absurd is
look_first cap r who Call.Pop is none = absurd is
look_first cap r who Call.Close is none = absurd is
look_first cap r who Call.IsClosed is none = closed_tail none
look_first cap r who Call.IsEmpty is none = empty_head none
look_first cap r who Call.IsFull is none = full_tail none
look_first cap r who Call.Capacity is none = tt
look_first cap r who look is none = count_tail _ refl none

module _ {A : Type 0} {cap : ℕ} {r : Ring A} {who : ℕ} {s : Shared A} {ms : List (State A)} {was : Bool} (ok : RingOk cap r) (codes : Codes cap r s) where
  pub good_count_tail : (g : Look) → IsCount A g → HoldsNone r.cells who
      → StepOk cap r who s ms was (empty_handed (Local.Ring (ring.CountTail g)) (Op.Load Word.Tail) (call_of_look g))
  good_count_tail g count none =
      still ok codes tt refl (ok.ring, tt) refl (
        count_head g s.tail count none (let a = ap position_of codes.tail ∙ position_tail r.tail r.closed in omega arith),
        λ calm. rw (pick s.tail (tail_of r.tail r.closed) 2 5 codes.tail) (omega arith),
      )

  pub good_count_head : (g : Look) (t : ℕ) → IsCount A g
      → HoldsNone r.cells who → position_of t ≤ r.tail
      → StepOk cap r who s ms was (empty_handed (Local.Ring (ring.CountHead g t)) (Op.Load Word.Head) (call_of_look g))
  good_count_head g t count none low =
      still ok codes tt refl (ok.ring, tt) refl (
        count_again g t s.head count none (inl (refl, (let a = codes.head in let b = ok.count in omega arith), low, omega arith)),
        λ calm. elim (t == tail_of r.tail r.closed) as (λ b. (if b then 1 else 4) < (if b then 2 else 5)) [ true ↦ omega arith | false ↦ omega arith ],
      )

  pub good_count_again : (g : Look) (t h : ℕ) → IsCount A g
      → HoldsNone r.cells who → SeenIn ms (HeadWas (Some cap) h (position_of t) r.tail)
      → StepOk cap r who s ms was (empty_handed (Local.Ring (ring.CountAgain g t h)) (Op.Load Word.Tail) (call_of_look g))
  good_count_again g t h count none seen =
      still ok codes tt refl
      (ok.ring, λ e. low_of (at_tail e) ms seen) refl
      (go (eqb_tells s.tail t))
    where
      at_tail : s.tail ≡ t → position_of t ≡ r.tail
      at_tail e = ap position_of (sym e ∙ codes.tail) ∙ position_tail r.tail r.closed

      low_of : position_of t ≡ r.tail → (ns : List (State A)) → SeenIn ns (HeadWas (Some cap) h (position_of t) r.tail) → h ≤ position_of t
      low_of e [] seen = absurd seen
      low_of e (m ∷ ns) (inl was) = let a = was.1 in let c = was.3 in omega arith
      low_of e (m ∷ ns) (inr seen) = low_of e ns seen

      go : (((s.tail == t) ≡ true) × (s.tail ≡ t)) ⊎ (((s.tail == t) ≡ false) × (s.tail ≢ t))
          → Stays cap r who ms was (if s.tail == t then ends (reply_of_look (Some cap) (position_of t - h) (is_shut t) g) else loads (ring.CountTail g) Word.Tail) None (call_of_look g) [] (if t == tail_of r.tail r.closed then 1 else 4)
      go (inl e) =
          let at = at_tail e.1 in
          let many = position_of t - h in
          let right = seen_map ms (λ m was. reply_right m (Some cap) many (is_shut t) g was.0 (let a = was.1 in let b = was.2 in let c = was.3 in omega arith) (λ e. absurd (count_waits A g count e))) seen in
          rw e.0 (none, refl, (reply_of_look (Some cap) many (is_shut t) g, reply_filled A (Some cap) many (is_shut t) g, reply_tells A (Some cap) many (is_shut t) g, λ _. inr right))
      go (inr e) =
          let other : (t == tail_of r.tail r.closed) ≡ false = ne_eqb t (tail_of r.tail r.closed) (λ same. e.1 (codes.tail ∙ sym same)) in
          rw (e.0, other) (count_tail g count none, λ calm. omega arith)

  pub good_empty_head : HoldsNone r.cells who
      → StepOk cap r who s ms was (empty_handed (Local.Ring ring.EmptyHead) (Op.Load Word.Head) Call.IsEmpty)
  good_empty_head none =
      still ok codes tt refl (ok.ring, tt) refl
      (empty_tail s.head none (tt, (let a = codes.head in omega arith), seen r.items refl), λ calm. omega arith)
    where
      seen : (xs : List A) → r.items ≡ xs → SeenIn (queue_of cap r ∷ ms) HasItems ⊎ (r.tail ≡ s.head)
      seen [] e = let a = codes.head in let b : length r.items ≡ 0 = ap length e in let c = ok.count in inr (omega arith)
      seen (x ∷ xs) e = let b : length r.items ≡ length xs + 1 = ap length e ∙ (omega arith) in inl (inl (omega arith))

  pub good_empty_tail : (h : ℕ)
      → HoldsNone r.cells who → SawEmpty h r ms
      → StepOk cap r who s ms was (empty_handed (Local.Ring (ring.EmptyTail h)) (Op.Load Word.Tail) Call.IsEmpty)
  good_empty_tail h none saw =
      still ok codes tt refl (ok.ring, tt) refl
      (rw at (none, refl, (Reply.IsEmpty (r.tail == h), refl, refl, λ _. go (eqb_tells r.tail h))))
    where
      at : position_of s.tail ≡ r.tail
      at = ap position_of codes.tail ∙ position_tail r.tail r.closed

      go : (((r.tail == h) ≡ true) × (r.tail ≡ h)) ⊎ (((r.tail == h) ≡ false) × (r.tail ≢ h))
          → SeenIn (queue_of cap r ∷ ms) (λ m. (r.tail == h) ≡ is_empty m.items)
      go (inl e) =
          let low = saw.1 in
          let count = ok.count in
          let tail = e.1 in
          inl (e.0 ∙ sym (no_items r.items (omega arith)))
      go (inr e) = elim saw.2 [
        | inl seen ↦ inr (seen_map ms (λ m some. e.0 ∙ sym (some_items m.items some)) seen)
        | inr same ↦ absurd (e.1 same)
      ]

  pub good_full_tail : HoldsNone r.cells who
      → StepOk cap r who s ms was (empty_handed (Local.Ring ring.FullTail) (Op.Load Word.Tail) Call.IsFull)
  good_full_tail none =
      still ok codes tt refl (ok.ring, tt) refl
      (full_head s.tail none (tt, (let a = at in omega arith), seen (cases (length r.items) cap)), λ calm. omega arith)
    where
      at : position_of s.tail ≡ r.tail
      at = ap position_of codes.tail ∙ position_tail r.tail r.closed

      cases : (m n : ℕ) → (m < n) ⊎ (n ≤ m)
      cases m n = grind arith

      seen : (length r.items < cap) ⊎ (cap ≤ length r.items) → SeenIn (queue_of cap r ∷ ms) (HasRoom cap) ⊎ (r.head + cap ≡ position_of s.tail)
      seen (inl lt) = inl (inl (refl, lt))
      seen (inr full) = let count = ok.count in let room = ok.room in let a = at in inr (omega arith)

  pub good_full_head : (t : ℕ)
      → HoldsNone r.cells who → SawFull cap (position_of t) r ms
      → StepOk cap r who s ms was (empty_handed (Local.Ring (ring.FullHead t)) (Op.Load Word.Head) Call.IsFull)
  good_full_head t none saw =
      still ok codes tt refl
      (ok.ring, rw codes.head (head_small cap r r.head ok (omega arith))) refl
      (rw codes.head (none, refl, (Reply.IsFull (r.head + cap == position_of t), refl, refl, λ _. go (eqb_tells (r.head + cap) (position_of t)))))
    where
      go : (((r.head + cap == position_of t) ≡ true) × (r.head + cap ≡ position_of t)) ⊎ (((r.head + cap == position_of t) ≡ false) × (r.head + cap ≢ position_of t))
          → SeenIn (queue_of cap r ∷ ms) (λ m. (r.head + cap == position_of t) ≡ is_full m)
      go (inl e) =
          let low = saw.1 in
          let count = ok.count in
          let room = ok.room in
          let full = e.1 in
          inl (e.0 ∙ sym (eq-eqb (length r.items) cap (omega arith)))
      go (inr e) = elim saw.2 [
        | inl seen ↦ inr (seen_map ms (λ m room. e.0 ∙ sym (rw room.0 (ne_eqb (length m.items) cap (λ same. let lt = room.1 in absurd (omega arith))))) seen)
        | inr same ↦ absurd (e.1 same)
      ]

  pub good_closing : HoldsNone r.cells who
      → StepOk cap r who s ms was (empty_handed (Local.Ring ring.Closing) (Op.Or Word.Tail MARK) Call.Close)
  good_closing none = go r.closed refl
    where
      even : (n : ℕ) (c : Bool) → (tail_of n c % 2 == 0) ≡ not c
      even n true = ne_eqb ((n * 2 + 1) % 2) 0 (λ e. absurd (let z : (n * 2 + 1) % 2 ≡ 1 = omega arith in omega arith))
      even n false = eq-eqb ((n * 2) % 2) 0 (omega arith)

      go : (c : Bool) → r.closed ≡ c → StepOk cap r who s ms was (empty_handed (Local.Ring ring.Closing) (Op.Or Word.Tail MARK) Call.Close)
      go true c =
          let shut : is_shut s.tail ≡ true = ap is_shut codes.tail ∙ (shut_tail r.tail r.closed ∙ c) in
          let odd : (s.tail % 2 == 0) ≡ false = ap (λ n. n % 2 == 0) codes.tail ∙ (even r.tail r.closed ∙ ap not c) in
          marks ok codes None (ok.ring, tt) (rw shut refl) (marks_closed cap r c) (rw odd (none, refl, (Reply.Close false, refl, refl, λ _. inl refl)))
      go false c =
          let shut : is_shut s.tail ≡ false = ap is_shut codes.tail ∙ (shut_tail r.tail r.closed ∙ c) in
          let odd : (s.tail % 2 == 0) ≡ true = ap (λ n. n % 2 == 0) codes.tail ∙ (even r.tail r.closed ∙ ap not c) in
          marks ok codes (Some Effect.Close) (ok.ring, tt) (rw shut refl) (c, refl) (rw odd (none, refl, (Reply.Close true, refl, refl, λ e. cc)))

  pub good_closed_tail : HoldsNone r.cells who
      → StepOk cap r who s ms was (empty_handed (Local.Ring ring.ClosedTail) (Op.Load Word.Tail) Call.IsClosed)
  good_closed_tail none =
      still ok codes tt refl (ok.ring, tt) refl
      (none, refl, (Reply.IsClosed (is_shut s.tail), refl, refl, λ _. inl (ap is_shut codes.tail ∙ shut_tail r.tail r.closed)))
