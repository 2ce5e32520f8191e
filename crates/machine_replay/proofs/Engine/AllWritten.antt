-- The slots once every call that is about to write has written, and the items that are gathered from them.
use Rattle.std.proofs.Common.{◌≡◌, ◌≢◌, ◌∙◌, ℕ, zero, suc, ◌+◌, ◌<◌, ◌≤◌, ◌==◌, Bool, true, false, Option, Some, None, List, [], ◌∷◌, length, get_or, set, get_or-set_same, get_or-set_other, refl, sym, ap, arith, inl, inr}
use Rattle.std.proofs.lemmas.{List.length-set, Bool.Decides.eqb_tells}
use Rattle.machine_replay.specs.Vocabulary.{Touch, Running}
use Rattle.queue_steps.specs.Words.{slot_at}
use Rattle.queue_laws.proofs.Ring.RingCells.{apart}
use Rattle.machine_steps.specs.Left.{written, written_by, all_written, gathered}

-- whether a touch writes slot i
abbrev pub writes_slot : Touch → ℕ → Bool
writes_slot (Touch.Put j) i = j == i
writes_slot (Touch.Swap j) i = j == i
writes_slot _ i = false

-- whether a call is about to write slot i
abbrev pub writes : {T : Type 0} → Option (Running T) → ℕ → Bool
writes None i = false
writes (Some r) i = writes_slot r.touch i

-- a write to another slot, or to none
written-other : {T : Type 0} (t : Touch) (v : Option T) (slots : List (Option T)) (i : ℕ) → writes_slot t i ≡ false → get_or (written t v slots) i None ≡ get_or slots i None
written-other Touch.Nothing v slots i e = refl
written-other (Touch.Take j) v slots i e = refl
written-other (Touch.Put j) v slots i e = get_or-set_other slots j i v None (apart_from j i e)
  where
    apart_from : (j i : ℕ) → (j == i) ≡ false → i ≢ j
    apart_from j i e = elim (eqb_tells j i) [ inl t ↦ λ _. cc | inr f ↦ λ s. f.1 (sym s) ]
written-other (Touch.Swap j) v slots i e = get_or-set_other slots j i v None (apart_from j i e)
  where
    apart_from : (j i : ℕ) → (j == i) ≡ false → i ≢ j
    apart_from j i e = elim (eqb_tells j i) [ inl t ↦ λ _. cc | inr f ↦ λ s. f.1 (sym s) ]

-- a write to this slot
written-same : {T : Type 0} (t : Touch) (v : Option T) (slots : List (Option T)) (i : ℕ) → i < length slots → writes_slot t i ≡ true → get_or (written t v slots) i None ≡ v
written-same Touch.Nothing v slots i lt e = cc
written-same (Touch.Take j) v slots i lt e = cc
written-same {T} (Touch.Put j) v slots i lt e = elim (eqb_tells j i) as (λ _. get_or (set slots j v) i None ≡ v) [ inl t ↦ rw t.1 (get_or-set_same slots i v None lt) | inr f ↦ let no = f.0 in cc ]
written-same {T} (Touch.Swap j) v slots i lt e = elim (eqb_tells j i) as (λ _. get_or (set slots j v) i None ≡ v) [ inl t ↦ rw t.1 (get_or-set_same slots i v None lt) | inr f ↦ let no = f.0 in cc ]

length-written : {T : Type 0} (t : Touch) (v : Option T) (slots : List (Option T)) → length (written t v slots) ≡ length slots
length-written (Touch.Put j) v slots = length-set slots j v
length-written (Touch.Swap j) v slots = length-set slots j v
length-written t v slots = refl

written_by-other : {T : Type 0} (x : Option (Running T)) (slots : List (Option T)) (i : ℕ) → writes x i ≡ false → get_or (written_by x slots) i None ≡ get_or slots i None
written_by-other None slots i e = refl
written_by-other (Some r) slots i e = written-other r.touch r.carried slots i e

length-written_by : {T : Type 0} (x : Option (Running T)) (slots : List (Option T)) → length (written_by x slots) ≡ length slots
length-written_by None slots = refl
length-written_by (Some r) slots = length-written r.touch r.carried slots

-- a slot that no call is about to write keeps its content
pub all_written-none : {T : Type 0} (calls : List (Option (Running T))) (slots : List (Option T)) (i : ℕ) → ((p : ℕ) → writes (get_or calls p None) i ≡ false) → get_or (all_written calls slots) i None ≡ get_or slots i None
all_written-none [] slots i all = refl
all_written-none (x ∷ xs) slots i all =
    all_written-none xs (written_by x slots) i (λ p. all (suc p)) ∙ written_by-other x slots i (all 0)

-- a slot that the call of one party alone is about to write then holds what that call carries
pub all_written-one : {T : Type 0} (calls : List (Option (Running T))) (slots : List (Option T)) (i who : ℕ) (r : Running T) → i < length slots
    → get_or calls who None ≡ Some r → writes_slot r.touch i ≡ true → ((p : ℕ) → p ≢ who → writes (get_or calls p None) i ≡ false)
    → get_or (all_written calls slots) i None ≡ r.carried
all_written-one [] slots i who r lt there here others = cc
all_written-one (x ∷ xs) slots i zero r lt there here others =
    all_written-none xs (written_by x slots) i (λ p. others (suc p) (λ e. absurd (omega arith)))
    ∙ ap (λ y. get_or (written_by y slots) i None) there ∙ written-same r.touch r.carried slots i lt here
all_written-one (x ∷ xs) slots i (suc who) r lt there here others =
    let long : i < length (written_by x slots) = rw (length-written_by x slots) lt in
    all_written-one xs (written_by x slots) i who r long there here (λ p ne. others (suc p) (λ e. ne (omega arith)))

-- the j-th of these items, if there are so many
abbrev pub nth : {T : Type 0} → List T → ℕ → Option T
nth [] j = None
nth (x ∷ xs) zero = Some x
nth (x ∷ xs) (suc j) = nth xs j

-- no more items than slots, each in the slot of its position, are gathered in their order
pub gathered-items : {T : Type 0} (n p : ℕ) (items : List T) (slots : List (Option T)) → 0 < n → length items ≤ n
    → ((j : ℕ) → j < length items → get_or slots (slot_at n (p + j)) None ≡ nth items j) → gathered n p (length items) slots ≡ items
gathered-items n p [] slots some few all = refl
gathered-items n p (x ∷ xs) slots some few all =
    let here : get_or slots (slot_at n p) None ≡ Some x = ap (λ q. get_or slots (slot_at n q) None) (omega arith) ∙ all 0 (omega arith) in
    let rest = gathered-items n (p + 1) xs (set slots (slot_at n p) None) some (omega arith) (λ j lt.
    let q : (p + 1) + j ≡ p + suc j = omega arith in
    get_or-set_other slots (slot_at n p) (slot_at n ((p + 1) + j)) None None (λ e. apart n p ((p + 1) + j) some (omega arith) (omega arith) (sym e))
    ∙ ap (λ k. get_or slots (slot_at n k) None) q ∙ all (suc j) (omega arith)) in
    rw (here, rest) refl
