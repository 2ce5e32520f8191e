-- A call on a ring that has had no effect yet has no slot, and still carries its own value: so its party may give it up.
use Rattle.std.proofs.Common.{ℕ, ◌≡◌, Bool, Some, List, [], refl, sym}
use Rattle.queue_steps.specs.{State.State, Kinds.call_value}
use Rattle.queue_steps.proofs.LookLaws.{look_value}
use Rattle.queue_laws.specs.{Common.Vocabulary.PushKind, Common.Pushes.pushes, Common.Stand.Stand, Ring.RingCells.Ring, Ring.RingCells.HoldsNone, Ring.RingEarly.IsEarly}
use Rattle.queue_laws.proofs.Ring.RingStart.{holds_none}
use Rattle.queue_laws.specs.Ring.RingAt.{At, push_tail, push_stamp, claiming, filling, arriving, swapping, spending, emptying, count_tail, count_head, count_again}

pushed : {A : Type 0} (d : PushKind) (v : A) → Some v ≡ call_value (pushes d v)
pushed PushKind.Push v = refl
pushed PushKind.Force v = refl

pub early : {A : Type 0} {cap : ℕ} {r : Ring A} {who : ℕ} {ms : List (State A)} {was : Bool} {c : Stand A}
    → IsEarly c.local → At cap r who ms was c → (c.effects ≡ []) × HoldsNone r.cells who × (c.carried ≡ call_value c.call)
early is (push_tail d v none) = (refl, none, pushed d v)
early is (push_stamp d v t none saw) = (refl, none, pushed d v)
early is (claiming d v t none saw free) = (refl, none, pushed d v)
early is (spending d v none all) = (refl, none, pushed d v)
early is (filling d v q one) = cc
early is (arriving old v t h below back one) = cc
early is (swapping old v h one) = cc
early is (emptying x h one) = cc
early {A} is (count_tail g count none) = (refl, none, sym (look_value A g))
early {A} is (count_head g t count none low) = (refl, none, sym (look_value A g))
early {A} is (count_again g t h count none seen) = (refl, none, sym (look_value A g))
early is x = (refl, holds_none x refl, refl)
