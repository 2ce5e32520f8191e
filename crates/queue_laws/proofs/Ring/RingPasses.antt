-- Each step leaves of a ring for the others what `Passes` says, and so what a call knows of it.
use Rattle.std.proofs.Common.{ℕ, ◌+◌, ◌%◌, ◌<◌, ◌≤◌, ◌≡◌, ◌≢◌, ◌∙◌, ◌⊎◌, inl, inr, Some, None, List, length, refl, sym, ap, arith, Option}
use Rattle.queue_steps.specs.State.{State}
use Rattle.queue_laws.specs.{Common.Puts.put, Common.Moments.HasItems, Common.Moments.HeadWas, Common.Moments.SeenIn, Common.Moments.seen_by, Ring.RingTransitions.appended, Ring.RingTransitions.taken, Ring.RingTransitions.written, Ring.RingTransitions.fronted, Ring.RingTransitions.arrived}
use Rattle.queue_laws.specs.Ring.{RingTransitions.marked, RingPasses.Passes, RingAt.FreeAt, RingAt.FullAt, RingAt.TailWas, RingAt.HasRoom, RingAt.SawEmpty, RingAt.SawFull}
use Rattle.queue_laws.proofs.{Common.Puts.put_ok, Common.Moments.seen_later, Common.Moments.seen_map, Common.Moments.seen_now, Common.Moments.started_later, Ring.RingCells.put_owned, Ring.RingCells.held_stays}
use Rattle.queue_laws.specs.Ring.RingCells.{Cell, Free, Written, Full, Read, Coming, Swapped, Ring, queue_of, RingOk, owner, HoldsNone, HoldsOne}

-- a step that changes no slot and no count
passes_still : {A : Type 0} (who : ℕ) (r s : Ring A) → s.head ≡ r.head → s.tail ≡ r.tail → s.cells ≡ r.cells → Passes who r s
passes_still who r s head tail cells = record {
  heads = inl head;
  tails = inl tail;
  one = inl head;
  free = λ k e. inr (ap (λ f. f k) cells ∙ e);
  full = λ k h x e. inr (ap (λ f. f k) cells ∙ e);
  held = λ k j ne e. ap (λ f. f k) cells;
  owned = λ k j ne e. ap (λ f. owner (f k)) (sym cells) ∙ e;
}

pub passes_same : {A : Type 0} (who : ℕ) (r : Ring A) → Passes who r r
passes_same who r = passes_still who r r refl refl refl

pub passes_marked : {A : Type 0} (who : ℕ) (r : Ring A) → Passes who r (marked r)
passes_marked who r = passes_still who r (marked r) refl refl refl

-- the slot is nobody's or the party's
abbrev pub IsOwnable : {A : Type 0} → ℕ → Cell A → Type 0
IsOwnable who c = (other : ℕ) → other ≢ who → owner c ≡ Some other → ⊥

pub ownable_none : {A : Type 0} (who : ℕ) (c : Cell A) → owner c ≡ None → IsOwnable who c
ownable_none who c nobody = λ other ne e. let f : None ≡ Some other = sym nobody ∙ e in cc

pub ownable_own : {A : Type 0} (who : ℕ) (c : Cell A) → owner c ≡ Some who → IsOwnable who c
ownable_own who c own = λ other ne e. let f : Some who ≡ Some other = sym own ∙ e in absurd (ne (let g : other ≡ who = cc in g))

-- a step that puts another cell into the slot i
pub passes_put : {A : Type 0} (who : ℕ) (r s : Ring A) (i : ℕ) (old new : Cell A)
    → s.cells ≡ put r.cells i new → r.cells i ≡ old
    → (s.head ≡ r.head) ⊎ (s.head ≡ r.head + 1) → (s.tail ≡ r.tail) ⊎ (s.tail ≡ r.tail + 1) → (s.head ≡ r.head) ⊎ (s.tail ≡ r.tail)
    → (old ≡ Free r.tail → r.tail < s.tail) → ((h : ℕ) (x : A) → old ≡ Full h x → h < s.head)
    → IsOwnable who old → IsOwnable who new → Passes who r s
passes_put who r s i old new cells is heads tails one free full mine mine' = record {
  heads = heads;
  tails = tails;
  one = one;
  free = λ k e. rw cells (put_ok r.cells i k new (λ j d. j ≡ k → (r.tail < s.tail) ⊎ (d ≡ Free r.tail)) (λ e2. inl (free (sym is ∙ (ap r.cells e2 ∙ e)))) (λ ne e2. inr e) refl);
  full = λ k h x e. rw cells (put_ok r.cells i k new (λ j d. j ≡ k → (h < s.head) ⊎ (d ≡ Full h x)) (λ e2. inl (full h x (sym is ∙ (ap r.cells e2 ∙ e)))) (λ ne e2. inr e) refl);
  held = λ k j ne e. rw cells (held_stays r.cells i k j new (λ o. mine j ne (ap owner (sym is) ∙ o)) e);
  owned = λ k j ne e. put_owned r.cells i k who j new ne (mine' j ne) (ap (λ f. owner (f k)) (sym cells) ∙ e);
}

pub passes_append : {A : Type 0} (cap : ℕ) (r : Ring A) (who : ℕ) (v : A) → r.cells (r.tail % cap) ≡ Free r.tail → Passes who r (appended cap r who v)
passes_append {A} cap r who v is =
    passes_put who r (appended cap r who v) (r.tail % cap) (Free r.tail) (Written r.tail who v) refl is (inl refl) (inr refl) (inl refl)
    (λ e. omega arith) (λ h x e. absurd (let f : Free r.tail ≡ Full h x = e in cc)) (ownable_none {A = A} who (Free r.tail) refl) (ownable_own who (Written r.tail who v) refl)

pub passes_take : {A : Type 0} (cap : ℕ) (r : Ring A) (who : ℕ) (x : A) → r.cells (r.head % cap) ≡ Full r.head x → Passes who r (taken cap r who x)
passes_take cap r who x is =
    passes_put who r (taken cap r who x) (r.head % cap) (Full r.head x) (Read r.head who x) refl is (inr refl) (inl refl) (inr refl)
    (λ e. absurd (let f : Full r.head x ≡ Free r.tail = e in cc)) (λ h y e. let f : r.head ≡ h = cc in omega arith) (ownable_none who (Full r.head x) refl) (ownable_own who (Read r.head who x) refl)

pub passes_front : {A : Type 0} (cap : ℕ) (r : Ring A) (who : ℕ) (old v : A) → r.cells (r.head % cap) ≡ Full r.head old → Passes who r (fronted cap r who old v)
passes_front cap r who old v is =
    passes_put who r (fronted cap r who old v) (r.head % cap) (Full r.head old) (Coming r.head who old v) refl is (inr refl) (inl refl) (inr refl)
    (λ e. absurd (let f : Full r.head old ≡ Free r.tail = e in cc)) (λ h y e. let f : r.head ≡ h = cc in omega arith) (ownable_none who (Full r.head old) refl) (ownable_own who (Coming r.head who old v) refl)

pub passes_arrive : {A : Type 0} (cap : ℕ) (r : Ring A) (p who : ℕ) (old v : A) → r.cells (p % cap) ≡ Coming p who old v → Passes who r (arrived cap r p who old v)
passes_arrive cap r p who old v is =
    passes_put who r (arrived cap r p who old v) (p % cap) (Coming p who old v) (Swapped p who old v) refl is (inl refl) (inr refl) (inl refl)
    (λ e. absurd (let f : Coming p who old v ≡ Free r.tail = e in cc)) (λ h x e. absurd (let f : Coming p who old v ≡ Full h x = e in cc))
    (ownable_own who (Coming p who old v) refl) (ownable_own who (Swapped p who old v) refl)

-- a party lets go of its slot
pub passes_written : {A : Type 0} (r : Ring A) (who i : ℕ) (old new : Cell A) → r.cells i ≡ old → owner old ≡ Some who → owner new ≡ None → Passes who r (written r i new)
passes_written r who i old new is own nobody =
    passes_put who r (written r i new) i old new refl is (inl refl) (inl refl) (inl refl)
    (λ e. absurd (let f : None ≡ Some who = ap owner (sym e) ∙ own in cc)) (λ h x e. absurd (let f : None ≡ Some who = ap owner (sym e) ∙ own in cc))
    (ownable_own who old own) (ownable_none who new nobody)

-- what a party holds is not touched by another
pub none_stays : {A : Type 0} {r s : Ring A} (who other : ℕ) → other ≢ who → Passes who r s → HoldsNone r.cells other → HoldsNone s.cells other
none_stays who other ne pass none = λ k e. none k (pass.owned k other ne e)

pub one_stays : {A : Type 0} {r s : Ring A} (who other i : ℕ) (c : Cell A) → other ≢ who → Passes who r s → owner c ≡ Some other → HoldsOne r.cells other i c → HoldsOne s.cells other i c
one_stays who other i c ne pass own one =
    (pass.held i other ne (ap owner one.0 ∙ own) ∙ one.0, λ k e. one.1 k (pass.owned k other ne e))

split : (q t : ℕ) → q ≤ t → (q < t) ⊎ (q ≡ t)
split q t low = grind arith

pub tail_grows : {A : Type 0} {r s : Ring A} (who : ℕ) → Passes who r s → r.tail ≤ s.tail
tail_grows who pass = elim pass.tails [ inl e ↦ omega arith | inr e ↦ omega arith ]

pub head_grows : {A : Type 0} {r s : Ring A} (who : ℕ) → Passes who r s → r.head ≤ s.head
head_grows who pass = elim pass.heads [ inl e ↦ omega arith | inr e ↦ omega arith ]

pub free_stays : {A : Type 0} {r s : Ring A} (cap who q : ℕ) → Passes who r s → FreeAt cap r q → FreeAt cap s q
free_stays cap who q pass (low, inl lt) = let g = tail_grows who pass in (omega arith, inl (omega arith))
free_stays {r = r} {s = s} cap who q pass (low, inr is) =
    let g = tail_grows who pass in (
      omega arith,
      elim (split q r.tail low) [
        | inl lt ↦ inl (omega arith)
        | inr e ↦ elim (pass.free (q % cap) (is ∙ ap (λ n. Free n) e)) [ inl lt ↦ inl (omega arith) | inr f ↦ inr (f ∙ ap (λ n. Free n) (sym e)) ]
      ],
    )

pub full_stays : {A : Type 0} {r s : Ring A} (cap who h : ℕ) → Passes who r s → FullAt cap r h → FullAt cap s h
full_stays cap who h pass (inl lt) = let g = head_grows who pass in inl (omega arith)
full_stays cap who h pass (inr (x, is)) = elim (pass.full (h % cap) h x is) [ inl lt ↦ inl lt | inr f ↦ inr (x, f) ]

pub tail_was_stays : {A : Type 0} {r s : Ring A} (cap who q : ℕ) (ms : List (State A)) (t : State A) → Passes who r s → SeenIn ms (TailWas cap q r.head) → SeenIn (seen_by t ms) (TailWas cap q s.head)
tail_was_stays {A} {r = r} {s = s} cap who q ms t pass seen =
    let g = head_grows who pass in
    seen_later ms t (TailWas cap q s.head) (seen_map ms (λ m p. (p.0, p.1, p.2, (let low = p.3 in omega arith), p.4)) seen)

pub head_was_stays : {A : Type 0} {r s : Ring A} (cap : Option ℕ) (who h q : ℕ) (ms : List (State A)) (t : State A) → Passes who r s → SeenIn ms (HeadWas cap h q r.tail) → SeenIn (seen_by t ms) (HeadWas cap h q s.tail)
head_was_stays {r = r} {s = s} cap who h q ms t pass seen =
    let g = tail_grows who pass in
    seen_later ms t (HeadWas cap h q s.tail) (seen_map ms (λ m p. (p.0, p.1, p.2, (let high = p.3 in omega arith))) seen)

pub saw_empty_stays : {A : Type 0} {r s : Ring A} (cap who h : ℕ) (ms : List (State A)) → RingOk cap r → RingOk cap s → Passes who r s → SawEmpty h r ms → SawEmpty h s (seen_by (queue_of cap s) ms)
saw_empty_stays {r = r} {s = s} cap who h ms ok ok' pass (started, low, inl seen) =
    let g = head_grows who pass in (started_later ms (queue_of cap s) started, omega arith, inl (seen_later ms (queue_of cap s) HasItems seen))
saw_empty_stays {r = r} {s = s} cap who h ms ok ok' pass (started, low, inr is) =
    let g = head_grows who pass in (
      started_later ms (queue_of cap s) started,
      omega arith,
      elim pass.tails [
        | inl e ↦ inr (e ∙ is)
        | inr e ↦ inl (seen_now ms (queue_of cap s) HasItems started (grown e pass.one))
      ],
    )
  where
    grown : s.tail ≡ r.tail + 1 → (s.head ≡ r.head) ⊎ (s.tail ≡ r.tail) → 0 < length s.items
    grown e (inl same) = let a = ok.count in let b = ok'.count in omega arith
    grown e (inr same) = absurd (omega arith)

pub saw_full_stays : {A : Type 0} {r s : Ring A} (cap who q : ℕ) (ms : List (State A)) → RingOk cap r → RingOk cap s → Passes who r s → SawFull cap q r ms → SawFull cap q s (seen_by (queue_of cap s) ms)
saw_full_stays {r = r} {s = s} cap who q ms ok ok' pass (started, low, inl seen) =
    let g = tail_grows who pass in (started_later ms (queue_of cap s) started, omega arith, inl (seen_later ms (queue_of cap s) (HasRoom cap) seen))
saw_full_stays {r = r} {s = s} cap who q ms ok ok' pass (started, low, inr is) =
    let g = tail_grows who pass in (
      started_later ms (queue_of cap s) started,
      omega arith,
      elim pass.heads [
        | inl e ↦ inr (ap (λ n. n + cap) e ∙ is)
        | inr e ↦ inl (seen_now ms (queue_of cap s) (HasRoom cap) started (refl, gone e pass.one))
      ],
    )
  where
    gone : s.head ≡ r.head + 1 → (s.head ≡ r.head) ⊎ (s.tail ≡ r.tail) → length s.items < cap
    gone e (inl same) = absurd (omega arith)
    gone e (inr same) = let a = ok.room in let b = ok'.count in omega arith
