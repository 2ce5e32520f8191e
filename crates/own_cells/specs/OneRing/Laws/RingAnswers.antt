-- Every call on a ring ends with its reply: it is a call of the only party, whose steps are those of the laws of parties.
use Rattle.std.specs.Prelude.{◌==◌, if◌then◌else◌}
use Rattle.std.proofs.Common.{◌≡◌, ◌||◌, ℕ, zero, suc, ◌<◌, ◌≤◌, not, Bool, true, false, List, [], ◌∷◌, Option, Some, None, Err, refl, arith, sym, ap, ◌∙◌, subst, inl, inr}
use Rattle.queue_steps.specs.{State.State, State.is_slot_cap, Effect.after_from, Legal.IsShown, RingNext.ring_begin, Words.position_of, Next.CanNext, Next.next_of, Kinds.call_kind, Kinds.call_value, Kinds.filled, Replies.IsRightAt, Replies.LacksMemory, Replies.Tells}
use Rattle.queue_steps.specs.Sequential.{Sequential, sequential_reply, sequential_state, moved}
use Rattle.queue_steps.proofs.Rows.{does_row}
use Rattle.queue_laws.specs.Common.Vocabulary.{Call, Reply, Effect, PushError, ForcePushError, Kind, Op, Touch, Answer, Next, STEPS_ALONE}
use Rattle.queue_laws.specs.{Common.Effects.FrontOpen, Common.Effects.with_effect, Common.Moments.SeenIn, Ring.RingShared.answered, Ring.RingShared.touched, Ring.RingShared.handed, Ring.RingCells.Ring, Ring.RingCells.queue_of, Ring.RingCells.RingOk, Ring.RingCells.HoldsNone, Ring.RingWords.Codes}
use Rattle.queue_laws.proofs.Common.Alone.{Alone, alone_first, alone_more, only_seen}
use Rattle.queue_laws.proofs.Ring.{RingIdle.AtRest, RingIdle.at_rest, RingTransitions.not_slot, RingRanks.rank, RingRanks.rank_some, RingSlots.nobody, RingStepOk.IsQuiet, RingStepOk.NextOk, RingFronts.may_front, RingStart.at_first, RingStep.step_good}
use Rattle.call_driver.specs.EndsIn.{EndsIn, EndsRight, Released, Replied, Answered}
use Rattle.own_cells.specs.OneRing.RingCells.{RingState, kind_of_ring, ring_touchable, ring_touched, ring_operable, ring_performed, ring_can_touch, ring_touches, ring_can_perform, ring_performs, ring_can_release, ring_releases}
use Rattle.own_cells.specs.{OneRing.RingOwned.IsIdle, OneRing.RingOwned.ring_queue, OneRing.RingOwned.ring_owned, OneSlot.Laws.ComputedRuns.EndsIn-step}
use Rattle.own_cells.specs.OneRing.Laws.{RingParty.part, RingParty.ring_of, RingParty.nobody_holds, RingParty.party_ok, RingParty.party_codes, RingRests.rested_idle, RingRests.rested_queue, RingSame.is_done, RingSame.same_step}

abbrev pub RingAnswers : {T : Type 0} → RingState T → Call T → Type 0
RingAnswers r c = EndsRight ring_can_touch ring_touches ring_can_perform ring_performs ring_can_release ring_releases IsIdle ring_owned (kind_of_ring r) c r

module _ {T : Type 0} where
  -- no block is held, before and after
  sequential : (r done : RingState T) (c : Call T) (x : Reply T) → x ≡ sequential_reply (ring_queue r) c → ring_queue done ≡ sequential_state (ring_queue r) c → Sequential (ring_owned r) c x (ring_owned done)
  sequential r done c x answers leaves =
      let Moved : State T → Type 0 = λ q. ring_owned done ≡ moved (ring_owned r) q in
      inl (answers, subst Moved leaves (ap (λ n. record { queue = ring_queue done; blocks = n }) (sym (either (position_of done.tail == 0)))))
    where
      either : (b : Bool) → ◌≡◌ {A = ℕ} (if b then 0 else 0) 0
      either true = refl
      either false = refl

  -- states that are shown as the same are the same, where there are more slots than one
  shown_same : (R P : State T) → is_slot_cap R.cap ≡ false → IsShown R P → R ≡ P
  shown_same R P many h =
      let accepted : R.accepted ≡ P.accepted = elim h.accepted [ inl e ↦ (let f : true ≡ false = sym e ∙ many in cc) | inr e ↦ e ] in
      λ i. record { items = h.items i; cap = h.cap i; closed = h.closed i; coming = h.coming i; accepted = accepted i }

  -- only without a capacity a push lacks memory
  lacks_none : (Q : State T) (c : Call T) (x : Reply T) → LacksMemory Q c x → Q.cap ≡ None
  lacks_none Q (Call.Push v) (Reply.Push (Err (PushError.NoMemory w))) l = l.1.0
  lacks_none Q (Call.ForcePush v) (Reply.ForcePush (Err (ForcePushError.NoMemory w))) l = l.1.0
  lacks_none Q _ _ l = absurd l

  module _ (first : RingState T) (c : Call T) where
    abbrev cap : ℕ
    cap = first.cap

    -- the words and slots, and the ring that they stand for, of which no other party has a slot
    record Holds (r : RingState T) (g : Ring T) : Type 0 where
      same : r.cap ≡ cap
      ok : RingOk cap g
      codes : Codes cap g (part r)
      quiet : IsQuiet g 0

    -- between calls again
    rests : (r : RingState T) (g : Ring T) → Holds r g → HoldsNone g.cells 0 → IsIdle r × (ring_queue r ≡ queue_of cap g)
    rests r g h none =
        subst (λ (n : ℕ). RingOk n g → Codes n g (part r) → IsIdle r × (ring_queue r ≡ queue_of n g)) h.same there h.ok h.codes
      where
        there : RingOk r.cap g → Codes r.cap g (part r) → IsIdle r × (ring_queue r ≡ queue_of r.cap g)
        there ok codes =
            let rest : AtRest r.cap g (part r) = at_rest r.cap g (part r) ok codes (nobody g 0 none h.quiet) in
            (rested_idle r.cap g (part r) r.slots ok codes rest codes.slotted (λ i lt. refl), rested_queue r.cap g (part r) r.slots ok codes rest codes.slotted (λ i lt. refl))

    -- the call ends with its reply
    ends : (r : RingState T) (g : Ring T) (ms : List (State T)) (was : Bool) (es : List (Effect T)) (x : Reply Unit) (v : Option T)
        → Holds r g → Alone (ring_queue first) (queue_of cap g) ms was es → HoldsNone g.cells 0
        → (y : Reply T) × (filled x v ≡ Some y) × Tells c y es × (es ≡ [] → SeenIn ms (λ m. IsRightAt m c y)) → Replied IsIdle ring_owned c first x v r
    ends r g ms was es x v h alone none (y, fills, tells, right) =
        let rest = rests r g h none in
        let Q : State T = ring_queue first in
        let leads : after_from Q es ≡ ring_queue r = alone.leads ∙ sym rest.1 in (
          rest.0,
          (
            y,
            fills,
            elim (does_row Q Q.accepted (inr refl) c y es tells alone.runs (λ e. inl (only_seen Q ms (λ m. IsRightAt m c y) (alone.only e) (right e))) (λ old w e. subst (FrontOpen Q) e alone.first)) [
              | inl d ↦
                  let shown : IsShown (sequential_state Q c) (ring_queue r) = subst (IsShown (sequential_state Q c)) leads d.1 in
                  let many : is_slot_cap (sequential_state Q c).cap ≡ false = ap is_slot_cap shown.cap ∙ (ap (λ n. is_slot_cap (Some n)) h.same ∙ not_slot cap h.ok.ring) in
                  sequential first r c y d.0 (sym (shown_same (sequential_state Q c) (ring_queue r) many shown))
              | inr l ↦ absurd (let f : Some cap ≡ None = lacks_none Q c y l.0 in cc)
            ],
          ),
        )

    -- what a call has to end with
    abbrev EndsAnswered : Reply Unit → Option ℕ → Option T → RingState T → Type 0
    EndsAnswered = Answered ring_can_release ring_releases IsIdle ring_owned c first

    abbrev Ends : ℕ → Next ℕ → RingState T → Option T → Type 0
    Ends n todo r v = EndsIn ring_can_touch ring_touches ring_can_perform ring_performs n (Kind.Bounded cap) todo r v EndsAnswered

    -- a call that stands here, with fewer than m steps before it, ends before n steps
    runs : (n m : ℕ) (r : RingState T) (before g : Ring T) (todo : Next ℕ) (v : Option T) (ms : List (State T)) (was : Bool) (es : List (Effect T))
        → Holds r g → IsQuiet before 0 → Alone (ring_queue first) (queue_of cap g) ms was es → NextOk cap before g 0 ms was todo v c es m → 0 < m → m ≤ n → Ends n todo r v
    runs zero m r before g todo v ms was es h calm alone goes some few = absurd (omega arith)
    runs (suc n) m r before g (Next.Reply x spare) v ms was es h calm alone goes some few =
        subst (λ b. Released ring_can_release ring_releases b r (Replied IsIdle ring_owned c first x v)) (sym goes.1) (ends r g ms was es x v h alone goes.0 goes.2)
    runs (suc n) m r before g (Next.Step l t o) v ms was es h calm alone goes some few =
        let good = step_good h.ok h.codes goes.0 in
        let same = same_step r t o v good.touches (is_done goes.0) good.operates in
        let after = good.after in
        let done : RingState T = (ring_performed (ring_touched r t o v).0 o).1 in
        let less = goes.1 (λ _. calm) in
        let holds : Holds done after = record {
          same = same.cap ∙ h.same;
          ok = good.ok;
          codes = subst (λ s. Codes cap after s) (sym same.leaves) good.codes;
          quiet = λ other ne k e. h.quiet other ne k (good.passes.owned k other ne e);
        } in
        let more = runs n (rank cap g l) done g after (next_of (Kind.Bounded cap) l (answered (touched (part r) t v) o)) (handed (part r) t v) (queue_of cap after ∷ ms) (was || not after.closed) (with_effect es good.e)
        holds h.quiet (alone_more (ring_queue first) (queue_of cap g) (queue_of cap after) ms was es good.e alone good.makes (may_front cap was l (answered (touched (part r) t v) o) good.e good.told)) good.goes (rank_some cap g l) (omega arith) in
        EndsIn-step ring_touchable ring_touched ring_operable ring_performed n (Kind.Bounded cap) l t o r v EndsAnswered same.touches same.operates
        (subst (λ a. CanNext (Kind.Bounded cap) l a) (sym same.answers) good.goes_on)
        (subst (λ (z : Answer ℕ × Option T). Ends n (next_of (Kind.Bounded cap) l z.0) done z.1) (λ i. (sym same.answers i, sym same.hands i)) more)

pub ring_answers : {T : Type 0} (r : RingState T) (c : Call T) → IsIdle r → RingAnswers r c
ring_answers r Call.Capacity i = (i.ring, (i, (Reply.Capacity (Some r.cap), refl, sequential r r Call.Capacity (Reply.Capacity (Some r.cap)) refl refl)))
ring_answers {T} r c i =
    let g : Ring T = ring_of r in
    let none = nobody_holds r in (
      i.ring,
      runs r c STEPS_ALONE STEPS_ALONE r g g (ring_begin r.cap (call_kind c)) (call_value c) [] false []
          (record { same = refl; ok = party_ok r i; codes = party_codes r i; quiet = λ other ne. none other }) (λ other ne. none other) (alone_first (ring_queue r))
          (at_first r.cap g 0 c (none 0), λ calm. omega arith) (omega arith) (omega arith),
    )

pub ring_stays : {T : Type 0} (r : RingState T) (o : Op ℕ) (carried : Option T) → ring_touches r Touch.Nothing o carried r carried
ring_stays r o carried = refl
