-- Every call on one slot ends with its reply.
use Rattle.std.specs.Prelude.{◌≡◌, ℕ, Bool, true, false, Option, Some, None, refl}
use Rattle.std.proofs.Common.{inl, sym, subst}
use Rattle.queue_steps.specs.{declared.model.Call.Call, declared.model.Call.Call as call, declared.model.Reply.Reply, declared.sizes.TheConstants.STEPS_ALONE, Next.CanNext, Next.next_of, Next.first_local, Sequential.Sequential, SlotNext.is_marked, Kinds.call_kind, Kinds.call_value, Kinds.filled}
use Rattle.queue_steps.specs.declared.steps.types.{Kind.Kind as kind, Kind.Kind, Local.Local, Local.Local as local, Answer.Answer, Answer.Answer as answer, Op.Op, Touch.Touch as touch}
use Rattle.own_cells.specs.{declared.slot.own_slot.OwnSlot.OwnSlot, OneSlot.Laws.ComputedRuns.Outcome, OneSlot.Laws.ComputedRuns.run_from, OneSlot.Laws.ComputedRuns.EndsIn-run}
use Rattle.call_driver.specs.EndsIn.{EndsRight, Released, Replied, Answered}
use Rattle.own_cells.specs.OneSlot.OwnSlotCells.{IsIdle, slot_owned, slot_touchable, slot_operable, slot_touched, slot_performed, slot_can_touch, slot_can_perform, slot_touches, slot_performs, slot_can_release, slot_releases, word_for}

-- the test of `CanNext` for one slot
abbrev pub can_next : Kind → Local Unit → Answer Unit → Bool
can_next kind.Single (local.Begin c) answer.Start = true
can_next kind.Single (local.Slot l) (answer.Found word) = true
can_next _ _ _ = false

pub can_next-is : (k : Kind) (l : Local Unit) (a : Answer Unit) → can_next k l a ≡ true → CanNext k l a
can_next-is kind.Single (local.Begin c) answer.Start e = tt
can_next-is kind.Single (local.Slot l) (answer.Found word) e = tt
can_next-is _ _ _ e = cc

abbrev pub slot_of : {T : Type 0} → Option T → ℕ → OwnSlot T
slot_of item lock = record { lock = lock; item = item }

-- the call's run, and that what it ends with is right
abbrev pub SlotRun : {T : Type 0} → Option T → Bool → Call T → Type 0
SlotRun {T} item closed c =
    (o : Outcome T Unit (OwnSlot T))
    × (run_from slot_touchable slot_touched slot_operable slot_performed can_next can_next-is STEPS_ALONE kind.Single (next_of kind.Single (first_local (call_kind c)) answer.Start) (slot_of item (word_for item closed)) (call_value c) ≡ Some o)
    × IsIdle o.cells
    × (o.spare ≡ None)
    × ((reply : Reply T) × (filled o.reply o.carried ≡ Some reply) × Sequential (slot_owned (slot_of item (word_for item closed))) c reply (slot_owned o.cells))

pub slot_run : {T : Type 0} (item : Option T) (closed : Bool) (c : Call T) → SlotRun item closed c
slot_run None false (call.Push v) = (_, refl, refl, refl, (_, refl, inl (refl, refl)))
slot_run None true (call.Push v) = (_, refl, refl, refl, (_, refl, inl (refl, refl)))
slot_run (Some x) false (call.Push v) = (_, refl, refl, refl, (_, refl, inl (refl, refl)))
slot_run (Some x) true (call.Push v) = (_, refl, refl, refl, (_, refl, inl (refl, refl)))
slot_run item closed c = (_, refl, refl, refl, (_, refl, inl (refl, refl)))

abbrev pub OwnSlotEnds : {T : Type 0} → OwnSlot T → Call T → Type 0
OwnSlotEnds {T} s c = EndsRight slot_can_touch slot_touches slot_can_perform (slot_performs {T = T}) slot_can_release slot_releases IsIdle slot_owned kind.Single c s

pub own_slot_ends : {T : Type 0} (item : Option T) (lock : ℕ) (closed : Bool) (c : Call T) → lock ≡ word_for item closed → OwnSlotEnds (slot_of item lock) c
own_slot_ends {T} item lock closed c is =
    let first : OwnSlot T = slot_of item (word_for item closed) in
    let r = slot_run item closed c in
    let End : Option Unit → Type 0 = λ b. Released slot_can_release slot_releases b r.0.cells (Replied IsIdle slot_owned c first r.0.reply r.0.carried) in
    let P : ℕ → Type 0 = λ w. OwnSlotEnds (slot_of item w) c in
    subst P (sym is) (
      tt,
      EndsIn-run slot_touchable slot_touched slot_operable slot_performed can_next can_next-is STEPS_ALONE kind.Single (next_of kind.Single (first_local (call_kind c)) answer.Start) first (call_value c)
          (Answered slot_can_release slot_releases IsIdle slot_owned c first) r.0 r.1 (subst End (sym r.3) (r.2, r.4)),
    )

pub own_slot_answers : {T : Type 0} (s : OwnSlot T) (c : Call T) → IsIdle s → OwnSlotEnds s c
own_slot_answers s c is = own_slot_ends s.item s.lock (is_marked s.lock) c is

pub own_slot_stays : {T : Type 0} (s : OwnSlot T) (o : Op Unit) (carried : Option T) → slot_touches s touch.Nothing o carried s carried
own_slot_stays s o carried = refl
