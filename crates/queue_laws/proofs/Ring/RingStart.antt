-- Where a call on a ring begins, which slot it touches, and what is coming behind a front.
use Rattle.std.proofs.Common.{ℕ, ◌+◌, ◌%◌, ◌≡◌, ◌∙◌, Bool, Some, List, [], sym, ap}
use Rattle.queue_steps.specs.{State.State, Kinds.call_kind, RingNext.ring_begin, Words.position_of}
use Rattle.queue_laws.specs.{Common.Vocabulary.Call, Common.Vocabulary.PushKind, Common.Stand.Stand, Common.Operations.OnWord, Ring.RingShared.HasPlace, Common.Effects.IsBetween, Common.Effects.Touches}
use Rattle.queue_laws.specs.Ring.RingCells.{Coming, Ring, CellOk, RingOk, owner, HoldsNone}
use Rattle.queue_laws.proofs.Ring.{RingCells.wraps, RingLook.look_first, RingTransitions.in_ring}
use Rattle.queue_laws.specs.Ring.RingAt.{At, push_tail, push_stamp, claiming, filling, push_head, displacing, arriving, swapping, spending, pop_head, pop_stamp, taking, emptying, pop_tail, count_tail, count_head, count_again, empty_head, empty_tail, full_tail, full_head, closing, closed_tail, Begun}

pub at_first : {A : Type 0} (cap : ℕ) (r : Ring A) (who : ℕ) (c : Call A) → HoldsNone r.cells who → Begun cap r who c (ring_begin cap (call_kind c))
at_first cap r who (Call.Push v) none = push_tail PushKind.Push v none
at_first cap r who (Call.ForcePush v) none = push_tail PushKind.Force v none
at_first cap r who Call.Pop none = pop_head none
at_first cap r who Call.Close none = closing none
at_first cap r who look none = look_first cap r who look tt none

-- a call that has had no effect holds no slot
pub holds_none : {A : Type 0} {cap : ℕ} {r : Ring A} {who : ℕ} {ms : List (State A)} {was : Bool} {c : Stand A} → At cap r who ms was c → c.effects ≡ [] → HoldsNone r.cells who
holds_none (push_tail d v none) e = none
holds_none (push_stamp d v t none saw) e = none
holds_none (claiming d v t none saw free) e = none
holds_none (push_head v t none saw) e = none
holds_none (displacing v t h none saw back full) e = none
holds_none (spending d v none high) e = none
holds_none (pop_head none) e = none
holds_none (pop_stamp h none low) e = none
holds_none (taking h none low full) e = none
holds_none (pop_tail h none low free) e = none
holds_none (count_tail g count none) e = none
holds_none (count_head g t count none low) e = none
holds_none (count_again g t h count none seen) e = none
holds_none (empty_head none) e = none
holds_none (empty_tail h none saw) e = none
holds_none (full_tail none) e = none
holds_none (full_head t none saw) e = none
holds_none (closing none) e = none
holds_none (closed_tail none) e = none
holds_none x e = cc

-- a slot that is touched is the party's own
pub at_touches : {A : Type 0} {cap : ℕ} {r : Ring A} {who : ℕ} {ms : List (State A)} {was : Bool} {c : Stand A}
    (i : ℕ) → At cap r who ms was c → Touches c.touch i → owner (r.cells i) ≡ Some who
at_touches {r = r} i (filling d v q one) e = ap (λ n. owner (r.cells n)) (sym e) ∙ ap owner one.0
at_touches {cap = cap} {r = r} i (swapping old v h one) e = ap (λ n. owner (r.cells n)) (sym e ∙ wraps h cap) ∙ ap owner one.0
at_touches {r = r} i (emptying x h one) e = ap (λ n. owner (r.cells n)) (sym e) ∙ ap owner one.0
at_touches i _ e = absurd e

-- behind a front that was taken off an item is coming
pub at_coming : {A : Type 0} {cap : ℕ} {r : Ring A} {who : ℕ} {ms : List (State A)} {was : Bool} {c : Stand A}
    → RingOk cap r → At cap r who ms was c → IsBetween c.effects → (x : A) × (r.coming ≡ Some x)
at_coming {A} {cap = cap} {r = r} {who = who} ok (arriving old v t h below back one) b =
    let here : CellOk cap r.head r.tail r.items r.coming (h % cap) (Coming h who old v) = rw one.0 at (ok.cell (h % cap) (in_ring cap h ok.ring)) in (v, here.3)
at_coming ok _ b = absurd b

-- each operation is one on a word of the ring
pub at_word : {A : Type 0} {cap : ℕ} {r : Ring A} {who : ℕ} {ms : List (State A)} {was : Bool} {c : Stand A}
    → RingOk cap r → At cap r who ms was c → OnWord (HasPlace cap) c.op
at_word {cap = cap} ok (push_stamp d v t none saw) = in_ring cap (position_of t) ok.ring
at_word {cap = cap} ok (filling d v q one) = in_ring cap q ok.ring
at_word {cap = cap} ok (swapping old v h one) = in_ring cap (h + cap) ok.ring
at_word {cap = cap} ok (pop_stamp h none low) = in_ring cap h ok.ring
at_word {cap = cap} ok (emptying x h one) = in_ring cap h ok.ring
at_word ok _ = tt
