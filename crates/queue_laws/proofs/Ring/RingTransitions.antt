-- Each step that changes a ring keeps it right, and its effect fits.
use Rattle.std.proofs.Common.{ℕ, ◌+◌, ◌-◌, ◌%◌, ◌<◌, ◌≡◌, ◌≢◌, ◌∙◌, inr, false, Option, Some, None, List, [], ◌∷◌, ◌++◌, length, refl, sym, ap, arith, slice_get}
use Rattle.std.proofs.lemmas.{List.length-append, Bool.ne_eqb, Bool.eq-eqb}
use Rattle.queue_laws.specs.{Common.Vocabulary.Effect, Common.Vocabulary.LIMIT, Ring.RingTransitions.appended, Ring.RingTransitions.taken, Ring.RingTransitions.written, Ring.RingTransitions.fronted, Ring.RingTransitions.arrived, Ring.RingTransitions.marked}
use Rattle.queue_steps.specs.{State.is_slot_cap, Effect.Fits, Effect.rest, Effect.with_coming, Words.IsRing}
use Rattle.queue_laws.proofs.{Common.Puts.put_ok, Common.Lists.behind, Common.Lists.first, Common.Lists.front_stays, Common.Lists.last_is, Common.Lists.length-rest, Common.Tests.none_if, Ring.RingCells.wraps}
use Rattle.queue_laws.specs.Ring.RingCells.{Cell, Free, Written, Full, Read, Coming, Swapped, Ring, queue_of, CellOk, RingOk}

-- an append leaves what is so of the other slots
cell_append : {A : Type 0} (cap head tail : ℕ) (items : List A) (coming coming' : Option A) (v : A) (i : ℕ) (c : Cell A)
    → i ≢ tail % cap → CellOk cap head tail items coming i c → CellOk cap head (tail + 1) (items ++ v ∷ []) coming' i c
cell_append cap head tail items coming coming' v i (Free p) ne ok =
    let other : p ≢ tail = λ e. ne (sym ok.0 ∙ ap (λ n. n % cap) e) in (ok.0, omega arith, ok.2)
cell_append cap head tail items coming coming' v i (Written p who w) ne ok = (ok.0, ok.1, omega arith, front_stays items v (p - head) w ok.3)
cell_append cap head tail items coming coming' v i (Full p x) ne ok = (ok.0, ok.1, omega arith, front_stays items v (p - head) x ok.3)
cell_append cap head tail items coming coming' v i (Read p who x) ne ok =
    let other : p + cap ≢ tail = λ e. ne (sym ok.0 ∙ sym (wraps p cap) ∙ ap (λ n. n % cap) e) in (ok.0, ok.1, omega arith)
cell_append cap head tail items coming coming' v i (Coming p who old w) ne ok = absurd (ne (sym ok.0 ∙ sym (wraps p cap) ∙ ap (λ n. n % cap) ok.2))
cell_append cap head tail items coming coming' v i (Swapped p who old w) ne ok = (ok.0, ok.1, omega arith, front_stays items v (p + cap - head) w ok.3)

-- so does taking the front
cell_take : {A : Type 0} (cap head tail : ℕ) (items : List A) (coming coming' : Option A) (i : ℕ) (c : Cell A)
    → i ≢ head % cap → ((v : A) → coming ≡ Some v → coming' ≡ Some v) → CellOk cap head tail items coming i c → CellOk cap (head + 1) tail (rest items) coming' i c
cell_take cap head tail items coming coming' i (Free p) ne keeps ok = (ok.0, ok.1, omega arith)
cell_take cap head tail items coming coming' i (Written p who w) ne keeps ok =
    let other : p ≢ head = λ e. ne (sym ok.0 ∙ ap (λ n. n % cap) e) in (ok.0, omega arith, ok.2, behind items p head w (omega arith) ok.3)
cell_take cap head tail items coming coming' i (Full p w) ne keeps ok =
    let other : p ≢ head = λ e. ne (sym ok.0 ∙ ap (λ n. n % cap) e) in (ok.0, omega arith, ok.2, behind items p head w (omega arith) ok.3)
cell_take cap head tail items coming coming' i (Read p who w) ne keeps ok = (ok.0, omega arith, ok.2)
cell_take cap head tail items coming coming' i (Coming p who old w) ne keeps ok = (ok.0, omega arith, ok.2, keeps w ok.3)
cell_take cap head tail items coming coming' i (Swapped p who old w) ne keeps ok =
    let other : p + cap ≢ head = λ e. ne (sym ok.0 ∙ sym (wraps p cap) ∙ ap (λ n. n % cap) e) in (ok.0, omega arith, ok.2, behind items (p + cap) head w (omega arith) ok.3)

-- where the slot of the tail is free for it, nothing is coming
pub none_coming : {A : Type 0} (cap : ℕ) (r : Ring A) → RingOk cap r → r.cells (r.tail % cap) ≡ Free r.tail → r.coming ≡ None
none_coming cap r ok free = none_if r.coming (λ w e.
    let c = ok.comes w e in
    let same : r.cells (r.tail % cap) ≡ Coming c.0 c.1 c.2 w = ap (λ n. r.cells (n % cap)) (sym c.3) ∙ ap r.cells (wraps c.0 cap) ∙ c.4 in
    cc)

-- a slot of the ring
pub in_ring : (cap p : ℕ) → IsRing cap → p % cap < cap
in_ring cap p ring = let wide : 1 < cap = ring.0 in omega arith

pub not_slot : (cap : ℕ) → IsRing cap → is_slot_cap (Some cap) ≡ false
not_slot cap ring = ne_eqb cap 1 (λ e. absurd (let wide : 1 < cap = ring.0 in omega arith))

pub append_ok : {A : Type 0} (cap : ℕ) (r : Ring A) (who : ℕ) (v : A) → RingOk cap r → r.closed ≡ false → r.tail < LIMIT → r.cells (r.tail % cap) ≡ Free r.tail
    → Fits (Effect.Append v) (queue_of cap r) × RingOk cap (appended cap r who v)
append_ok {A = A} cap r who v ok opened below free =
    let i = r.tail % cap in
    let here : CellOk cap r.head r.tail r.items r.coming i (Free r.tail) = rw free at (ok.cell i (in_ring cap r.tail ok.ring)) in
    let none : r.coming ≡ None = none_coming cap r ok free in
    let size : length r.items ≢ cap = λ e. absurd (omega (arith, here.2, ok.count)) in (
      (opened, none, ne_eqb (length r.items) cap size, inr below),
      record {
        ring = ok.ring;
        count = let c = ok.count in omega (arith, length-append r.items (v ∷ []));
        room = omega (arith, here.2);
        most = omega arith;
        cell = λ j lt. put_ok r.cells i j (Written r.tail who v) (λ j c. CellOk cap r.head (r.tail + 1) (r.items ++ v ∷ []) r.coming j c)
            (refl, omega (arith, ok.count), omega arith, last_is r.items v (r.tail - r.head) (omega (arith, ok.count)))
            (λ ne. cell_append cap r.head r.tail r.items r.coming r.coming v j (r.cells j) ne (ok.cell j lt));
        comes = λ w e. let f : None ≡ Some w = sym none ∙ e in cc;
      },
    )

-- the item of a full slot at the head is the front
pub front_is : {A : Type 0} (cap : ℕ) (r : Ring A) (x : A) → RingOk cap r → r.cells (r.head % cap) ≡ Full r.head x → slice_get r.items 0 ≡ Some x
front_is cap r x ok full =
    let here : CellOk cap r.head r.tail r.items r.coming (r.head % cap) (Full r.head x) = rw full at (ok.cell (r.head % cap) (in_ring cap r.head ok.ring)) in
    let at : r.head - r.head ≡ 0 = omega arith in
    rw at at here.3

pub take_ok : {A : Type 0} (cap : ℕ) (r : Ring A) (who : ℕ) (x : A) → RingOk cap r → r.cells (r.head % cap) ≡ Full r.head x
    → Fits (Effect.Take x) (queue_of cap r) × RingOk cap (taken cap r who x)
take_ok cap r who x ok full =
    let i = r.head % cap in
    let here : CellOk cap r.head r.tail r.items r.coming i (Full r.head x) = rw full at (ok.cell i (in_ring cap r.head ok.ring)) in
    let is = front_is cap r x ok full in (
      first r.items x is,
      record {
        ring = ok.ring;
        count = omega (arith, ok.count, length-rest r.items x is);
        room = omega (arith, ok.room);
        most = ok.most;
        cell = λ j lt. put_ok r.cells i j (Read r.head who x) (λ j c. CellOk cap (r.head + 1) r.tail (rest r.items) r.coming j c)
            (refl, omega arith, ok.room)
            (λ ne. cell_take cap r.head r.tail r.items r.coming r.coming j (r.cells j) ne (λ v e. e) (ok.cell j lt));
        comes = λ v e.
            let c = ok.comes v e in (
              c.0,
              c.1,
              c.2,
              c.3,
              put_ok r.cells i (c.0 % cap) (Read r.head who x) (λ j d. (j ≡ c.0 % cap) → d ≡ Coming c.0 c.1 c.2 v)
                  (λ e2. let same : r.cells i ≡ Coming c.0 c.1 c.2 v = ap r.cells e2 ∙ c.4 in cc)
                  (λ ne e2. c.4) refl,
            );
      },
    )

slot_ok : {A : Type 0} (cap : ℕ) (r : Ring A) (i : ℕ) (old new : Cell A) → RingOk cap r → i < cap → r.cells i ≡ old
    → ((p who : ℕ) (a b : A) → old ≡ Coming p who a b → ⊥)
    → (CellOk cap r.head r.tail r.items r.coming i old → CellOk cap r.head r.tail r.items r.coming i new)
    → RingOk cap (written r i new)
slot_ok cap r i old new ok lt is plain goes =
    record {
      ring = ok.ring;
      count = ok.count;
      room = ok.room;
      most = ok.most;
      cell = λ j l. put_ok r.cells i j new (λ j c. CellOk cap r.head r.tail r.items r.coming j c) (goes (rw is at (ok.cell i lt))) (λ ne. ok.cell j l);
      comes = λ v e.
          let c = ok.comes v e in (
            c.0,
            c.1,
            c.2,
            c.3,
            put_ok r.cells i (c.0 % cap) new (λ j d. (j ≡ c.0 % cap) → d ≡ Coming c.0 c.1 c.2 v)
                (λ e2. absurd (plain c.0 c.1 c.2 v (sym is ∙ ap r.cells e2 ∙ c.4)))
                (λ ne e2. c.4) refl,
          );
    }

-- the push stamps its slot
pub write_ok : {A : Type 0} (cap : ℕ) (r : Ring A) (p who : ℕ) (v : A) → RingOk cap r → r.cells (p % cap) ≡ Written p who v → RingOk cap (written r (p % cap) (Full p v))
write_ok cap r p who v ok is = slot_ok cap r (p % cap) (Written p who v) (Full p v) ok (in_ring cap p ok.ring) is (λ q w a b e. cc) (λ c. c)

-- the pop stamps its slot
pub read_ok : {A : Type 0} (cap : ℕ) (r : Ring A) (p who : ℕ) (x : A) → RingOk cap r → r.cells (p % cap) ≡ Read p who x → RingOk cap (written r (p % cap) (Free (p + cap)))
read_ok cap r p who x ok is = slot_ok cap r (p % cap) (Read p who x) (Free (p + cap)) ok (in_ring cap p ok.ring) is (λ q w a b e. cc) (λ c. (wraps p cap, c.2, omega (arith, c.1)))

-- the displacing call stamps its slot
pub swap_ok : {A : Type 0} (cap : ℕ) (r : Ring A) (p who : ℕ) (old v : A) → RingOk cap r → r.cells (p % cap) ≡ Swapped p who old v → RingOk cap (written r (p % cap) (Full (p + cap) v))
swap_ok cap r p who old v ok is = slot_ok cap r (p % cap) (Swapped p who old v) (Full (p + cap) v) ok (in_ring cap p ok.ring) is (λ q w a b e. cc) (λ c. (wraps p cap, c.1, c.2, c.3))

pub front_ok : {A : Type 0} (cap : ℕ) (r : Ring A) (who : ℕ) (old v : A) → RingOk cap r → r.tail < LIMIT → r.head + cap ≡ r.tail → r.cells (r.head % cap) ≡ Full r.head old
    → Fits (Effect.Front old v) (queue_of cap r) × RingOk cap (fronted cap r who old v)
front_ok {A = A} cap r who old v ok below all full =
    let i = r.head % cap in
    let here : CellOk cap r.head r.tail r.items r.coming i (Full r.head old) = rw full at (ok.cell i (in_ring cap r.head ok.ring)) in
    let is = front_is cap r old ok full in
    let none : (w : A) → r.coming ≡ Some w → ⊥ = λ w e.
    let c = ok.comes w e in
    let p_is : c.0 ≡ r.head = omega (arith, c.3, all) in
    let same : r.cells i ≡ Coming c.0 c.1 c.2 w = ap (λ n. r.cells (n % cap)) (sym p_is) ∙ c.4 in
    cc in
    let size : length r.items ≡ cap = omega (arith, all, ok.count) in (
      (not_slot cap ok.ring, eq-eqb (length r.items) cap size, none_if r.coming none, inr below, first r.items old is),
      record {
        ring = ok.ring;
        count = omega (arith, ok.count, length-rest r.items old is);
        room = omega (arith, ok.room);
        most = ok.most;
        cell = λ j lt. put_ok r.cells i j (Coming r.head who old v) (λ j c. CellOk cap (r.head + 1) r.tail (rest r.items) (Some v) j c)
            (refl, omega arith, all, refl)
            (λ ne. cell_take cap r.head r.tail r.items r.coming (Some v) j (r.cells j) ne (λ w e. absurd (none w e)) (ok.cell j lt));
        comes = λ w e. (r.head, who, old, all, (rw (eq-eqb i i refl) (ap (Coming r.head who old) (cc))));
      },
    )

pub arrive_ok : {A : Type 0} (cap : ℕ) (r : Ring A) (p who : ℕ) (old v : A) → RingOk cap r → r.tail < LIMIT → r.cells (p % cap) ≡ Coming p who old v
    → Fits Effect.Arrive (queue_of cap r) × RingOk cap (arrived cap r p who old v)
arrive_ok {A = A} cap r p who old v ok below is =
    let i = p % cap in
    let here : CellOk cap r.head r.tail r.items r.coming i (Coming p who old v) = rw is at (ok.cell i (in_ring cap p ok.ring)) in
    let at : i ≡ r.tail % cap = sym (wraps p cap) ∙ ap (λ n. n % cap) here.2 in
    let made_is : with_coming r.items r.coming ≡ r.items ++ v ∷ [] = ap (with_coming r.items) here.3 in (
      (v, here.3),
      record {
        ring = ok.ring;
        count = rw made_is (omega (arith, length-append r.items (v ∷ []), ok.count));
        room = omega (arith, here.1, here.2);
        most = omega arith;
        cell = λ j lt. rw made_is (put_ok r.cells i j (Swapped p who old v) (λ j c. CellOk cap r.head (r.tail + 1) (r.items ++ v ∷ []) None j c)
            (refl, omega (arith, here.2, ok.count), omega (arith, here.2), last_is r.items v (p + cap - r.head) (omega (arith, here.2, ok.count)))
            (λ ne. cell_append cap r.head r.tail r.items r.coming None v j (r.cells j) (λ e. ne (e ∙ sym at)) (ok.cell j lt)));
        comes = λ w e. cc;
      },
    )

pub mark_ok : {A : Type 0} (cap : ℕ) (r : Ring A) → RingOk cap r → RingOk cap (marked r)
mark_ok cap r ok = record { ring = ok.ring; count = ok.count; room = ok.room; most = ok.most; cell = ok.cell; comes = ok.comes }
