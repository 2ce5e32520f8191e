-- A step on the words and slots of one owner is that step of the laws of parties.
use Rattle.std.specs.Prelude.{◌==◌, if◌then◌else◌}
use Rattle.std.proofs.Common.{◌≡◌, ℕ, ◌+◌, ◌%◌, ◌^◌, Bool, true, false, List, length, Option, refl, sym, ap, ◌∙◌, subst}
use Rattle.std.proofs.Math.Nat.{mod-eq_of_lt}
use prog.Atomic.{either}
use Rattle.queue_steps.specs.State.{State}
use Rattle.queue_laws.specs.Common.{Vocabulary.Word, Vocabulary.Op, Vocabulary.Touch, Stand.Stand}
use Rattle.queue_laws.specs.Ring.{RingShared.CanTouch, RingShared.CanOperate, RingShared.answered, RingShared.operated, RingShared.touched, RingShared.handed, RingShared.put_word, RingCells.Ring, RingAt.At, RingAt.push_tail}
use Rattle.own_cells.specs.OneRing.{RingCells.RingState, RingCells.ring_touchable, RingCells.ring_touched, RingCells.ring_operable, RingCells.ring_performed, Laws.Numbers.less, Laws.RingParty.part}

-- an operation that calls on a ring do
abbrev IsDone : Op ℕ → Type 0
IsDone (Op.Load w) = Unit {0}
IsDone (Op.Store (Word.Stamp i) n) = Unit {0}
IsDone (Op.Add Word.Tail n) = Unit {0}
IsDone (Op.Or Word.Tail n) = Unit {0}
IsDone (Op.Exchange Word.Tail a b) = Unit {0}
IsDone (Op.Exchange Word.Head a b) = Unit {0}
IsDone _ = ⊥

module _ {T : Type 0} where
  pub is_done : {cap : ℕ} {r : Ring T} {who : ℕ} {ms : List (State T)} {was : Bool} {c : Stand T} → At cap r who ms was c → IsDone c.op
  is_done (push_tail d v none) = tt
  is_done _ = tt

  -- the touch
  record SameTouch (r : RingState T) (t : Touch) (o : Op ℕ) (v : Option T) : Type 0 where
    can : ring_touchable r t o ≡ true
    leaves : part (ring_touched r t o v).0 ≡ touched (part r) t v
    hands : (ring_touched r t o v).1 ≡ handed (part r) t v
    cap : (ring_touched r t o v).0.cap ≡ r.cap

  same_touch : (r : RingState T) (t : Touch) (o : Op ℕ) (v : Option T) → CanTouch (part r) t → SameTouch r t o v
  same_touch r Touch.Nothing o v can = record { can = refl; leaves = refl; hands = refl; cap = refl }
  same_touch r (Touch.Put i) o v can = record { can = less i (length r.slots) can; leaves = refl; hands = refl; cap = refl }
  same_touch r (Touch.Swap i) o v can = record { can = less i (length r.slots) can; leaves = refl; hands = refl; cap = refl }
  same_touch r (Touch.Take i) o v can = record { can = less i (length r.slots) can; leaves = refl; hands = refl; cap = refl }

  -- the operation
  record SameOperation (r : RingState T) (o : Op ℕ) : Type 0 where
    can : ring_operable r o ≡ true
    answers : (ring_performed r o).0 ≡ answered (part r) o
    leaves : part (ring_performed r o).1 ≡ operated (part r) o
    cap : (ring_performed r o).1.cap ≡ r.cap

  same_operation : (r : RingState T) (o : Op ℕ) → IsDone o → CanOperate (part r) o → SameOperation r o
  same_operation r (Op.Load Word.Tail) done can = record { can = refl; answers = refl; leaves = refl; cap = refl }
  same_operation r (Op.Load Word.Head) done can = record { can = refl; answers = refl; leaves = refl; cap = refl }
  same_operation r (Op.Load (Word.Stamp i)) done can = record { can = less i (length r.stamps) can; answers = refl; leaves = refl; cap = refl }
  same_operation r (Op.Store (Word.Stamp i) n) done can = record { can = less i (length r.stamps) can; answers = refl; leaves = refl; cap = refl }
  same_operation r (Op.Add Word.Tail n) done can =
      let fits : (r.tail + n) % 2 ^ 64 ≡ r.tail + n = mod-eq_of_lt can.1 in
      record { can = less (r.tail + n) (2 ^ 64) can.1; answers = refl; leaves = ap (λ m. put_word (part r) Word.Tail m) (sym fits); cap = refl }
  same_operation r (Op.Or Word.Tail n) done can = record { can = refl; answers = refl; leaves = refl; cap = refl }
  same_operation r (Op.Exchange Word.Tail a b) done can = record {
    can = refl;
    answers = refl;
    leaves = elim (r.tail == a) as (λ t. part (record r { tail = if t then b else r.tail }) ≡ put_word (part r) Word.Tail (either t b r.tail)) [ true ↦ refl | false ↦ refl ];
    cap = refl;
  }
  same_operation r (Op.Exchange Word.Head a b) done can = record {
    can = refl;
    answers = refl;
    leaves = elim (r.head == a) as (λ t. part (record r { head = if t then b else r.head }) ≡ put_word (part r) Word.Head (either t b r.head)) [ true ↦ refl | false ↦ refl ];
    cap = refl;
  }
  same_operation r (Op.Load w) done can = absurd can
  same_operation r _ done can = absurd done

  -- the whole step
  pub record SameStep (r : RingState T) (t : Touch) (o : Op ℕ) (v : Option T) : Type 0 where
    pub touches : ring_touchable r t o ≡ true
    pub operates : ring_operable (ring_touched r t o v).0 o ≡ true
    pub answers : (ring_performed (ring_touched r t o v).0 o).0 ≡ answered (touched (part r) t v) o
    pub hands : (ring_touched r t o v).1 ≡ handed (part r) t v
    pub leaves : part (ring_performed (ring_touched r t o v).0 o).1 ≡ operated (touched (part r) t v) o
    pub cap : (ring_performed (ring_touched r t o v).0 o).1.cap ≡ r.cap

  pub same_step : (r : RingState T) (t : Touch) (o : Op ℕ) (v : Option T) → CanTouch (part r) t → IsDone o → CanOperate (touched (part r) t v) o → SameStep r t o v
  same_step r t o v can_touch done can =
      let first = same_touch r t o v can_touch in
      let second = same_operation (ring_touched r t o v).0 o done (subst (λ s. CanOperate s o) (sym first.leaves) can) in
      record {
        touches = first.can;
        operates = second.can;
        answers = second.answers ∙ ap (λ s. answered s o) first.leaves;
        hands = first.hands;
        leaves = second.leaves ∙ ap (λ s. operated s o) first.leaves;
        cap = second.cap ∙ first.cap;
      }
