-- One slot keeps the laws of the engine.
use Rattle.std.proofs.Common.{ℕ, ◌<◌, ◌≤◌, ◌≡◌, ◌≢◌, ◌==◌, ◌∙◌, inl, Bool, true, false, Option, Some, List, [], ◌∷◌, refl, sym, ap, subst, arith}
use Rattle.queue_steps.specs.{State.State, Next.next_of, Next.CanNext, WaitFree.is_wait_free, Replies.IsRightAt}
use Rattle.machine_replay.specs.{Vocabulary.Call, Vocabulary.Reply, Vocabulary.Effect, Vocabulary.Kind, Vocabulary.Next, Vocabulary.Running, Book.Open, Book.Allows, Book.after_own, Book.begun}
use Rattle.queue_laws.specs.{Common.Effects.with_effect, Slot.SlotHolder.SlotHolder, Slot.SlotHolder.Nobody, Slot.SlotHolder.LockHolder, Slot.SlotHolder.Idle, Slot.SlotHolder.own_of}
use Rattle.machine_replay.proofs.{Engine.StandOf.stand_of, Engine.Moments.any_in, Engine.KindLaws.LawsOf, Slot.Coded.one_slot, Slot.Coded.same_step, Slot.Coded.shared_same, Slot.Moments.slot_begun, Slot.Moments.slot_moves}
use Rattle.machine_replay.proofs.Progress.FewSteps.{FewSteps, few_begun, few_joined, few_watched, few_own, few_stays}
use Rattle.queue_laws.specs.Slot.SlotShared as slot
use Rattle.queue_laws.specs.Slot.SlotRows.{Codes, At, push_try, force_try_empty, pop_try, close_try, look_at, single, NextOk, IsEffect}
use Rattle.queue_laws.proofs.Slot.{SlotSteps.step_good, SlotHolder.share_of, SlotHolder.next_who, SlotHolder.own_self, SlotHolder.own_other, SlotHolder.own_alone}
use Rattle.queue_laws.proofs.Slot.SlotRanks.{rank, rank_small, rank_some, Falls, step_falls, IsReplying, wait_free_ends, wait_free_one, can_operate}
use Rattle.machine_memory.specs.SharedMemory.{MemoryState}
use Rattle.machine_steps.specs.Steps.{CanStep, CanReply, answer_to, step_of, start_of, running_after, reply_after, next_after, carried_then, shared_then}
use Rattle.machine_replay.proofs.Engine.Events as engine

pub record SlotHolds {T : Type 0} (s : MemoryState T) (Q : State T) (g : LockHolder T) : Type 0 where
  pub word : ℕ
  pub slot : Option T
  pub items : List T
  pub c : Bool
  pub n : ℕ
  pub shared_is : s ≡ one_slot word slot
  pub queue_is : Q ≡ single items c n
  pub stands : Codes word slot g.hold items c

-- where the call stands, and that it has few steps before it
pub record FitsIn {T : Type 0} (busy : ℕ) (s : MemoryState T) (Q : State T) (g : LockHolder T) (p : ℕ) (r : Running T) (o : Open T) : Type 0 where
  pub here : At (stand_of r o.call o.effects) (own_of g.who g.hold p)
  pub few : FewSteps busy o (rank r.local s.lock) 3

abbrev GoesWell : {T : Type 0} → ℕ → MemoryState T → State T → LockHolder T → ℕ → Open T → Option (Running T) → Option (Reply T) → Type 0
GoesWell {T} = engine.NextFits T (MemoryState T) (Running T) (LockHolder T) (Some 1) (step_of Kind.Single) (start_of Kind.Single) (CanStep Kind.Single) SlotHolds Idle FitsIn

-- where the call stands after its step
lands_well : {T : Type 0} (x : Next ℕ) (v : Option T) (busy : ℕ) (s : MemoryState T) (Q : State T) (g : LockHolder T) (p : ℕ) (o : Open T) (own : SlotHolder T) (n : ℕ)
    → own ≡ own_of g.who g.hold p → NextOk x v own o.call o.effects o.moments
    → ((m : ℕ) → m ≤ 3 → (busy ≡ 1 → m < n) → (is_wait_free o.call ≡ true → m < n) → FewSteps busy o m 3) → (busy ≡ 1 → Falls x n s.lock)
    → (is_wait_free o.call ≡ true → IsReplying x) → GoesWell busy s Q g p o (running_after x v) (reply_after x v)
lands_well (Next.Step l t a) v busy s Q g p o own n is lands counts falls wait_free =
    let less = counts (rank l s.lock) (rank_small l s.lock) falls (λ e. absurd (wait_free e)) in
    (record { here = rw (sym is) lands; few = less }, few_stays busy o (rank l s.lock) 3 (omega arith) (rank_some l s.lock) (slot_begun lands) less)
lands_well (Next.Reply x spare) v busy s Q g p o own n is lands counts falls wait_free =
    let y = lands.2 in
    rw y.1 (sym is ∙ lands.0, (y.2, λ e. any_in o.moments (λ m. IsRightAt m o.call y.0) (Allows o.call y.0) (λ m right. inl right) (y.3 e)))

-- what a call does after its step, by the slot's laws
abbrev next_on : {T : Type 0} → ℕ → Option T → Running T → Next ℕ
next_on word x r = next_of Kind.Single r.local (slot.answered (slot.touched (slot.one_slot word x) r.touch r.carried) r.op)

stepped_well : {T : Type 0} (busy : ℕ) (ok : Bool) (s : MemoryState T) (Q : State T) (g : LockHolder T) (p : ℕ) (r : Running T) (o : Open T)
    → SlotHolds s Q g → FitsIn busy s Q g p r o → (busy ≡ 1 → (j : ℕ) → j ≢ p → Idle g j)
    → engine.StepsWell T (MemoryState T) (Running T) (LockHolder T) (Some 1) (step_of Kind.Single) (start_of Kind.Single) (CanStep Kind.Single) SlotHolds Idle FitsIn busy s Q g p o (step_of Kind.Single ok s r)
stepped_well {T} busy ok s Q g p r o holds f others =
    rw holds.shared_is (from_here (rw holds.shared_is at f.few))
  where
    from_here : FewSteps busy o (rank r.local holds.word) 3
        → engine.StepsWell T (MemoryState T) (Running T) (LockHolder T) (Some 1) (step_of Kind.Single) (start_of Kind.Single) (CanStep Kind.Single) SlotHolds Idle FitsIn busy (one_slot holds.word holds.slot) Q g p o (step_of Kind.Single ok (one_slot holds.word holds.slot) r)
    from_here few =
        let good = step_good f.here (share_of (p == g.who) g.hold) holds.stands holds.n o.moments in
        let same = same_step ok holds.word holds.slot f.here in
        let memory = one_slot holds.word holds.slot in
        let left : shared_then Kind.Single ok memory r ≡ one_slot good.word' good.slot' = shared_same ok memory r good.word' good.slot' (same.leaves ∙ ap (λ x. one_slot x.lock x.slot) good.leaves) in
        let word : (shared_then Kind.Single ok memory r).lock ≡ good.word' = ap (λ c. c.lock) left in
        let went : next_after Kind.Single ok memory r ≡ next_on holds.word holds.slot r = ap (λ a. next_of Kind.Single r.local a) same.answers in
        let Q' = single good.items' good.c' good.n' in
        let es' = with_effect o.effects good.e in
        let g' : LockHolder T = record { who = next_who good.passes g.who p; hold = good.h' } in
        record {
          after = Q';
          kept = g';
          effects = es';
          holds = record { word = good.word'; slot = good.slot'; items = good.items'; c = good.c'; n = good.n'; shared_is = left; queue_is = refl; stands = good.stands };
          moves = slot_moves Q (single holds.items holds.c holds.n) Q' o r.local (answer_to ok memory r) good.e holds.queue_is (subst (λ a. IsEffect r.local a good.e) (sym same.answers) good.told) good.makes;
          goes = lands_well (next_after Kind.Single ok memory r) (carried_then memory r) busy (shared_then Kind.Single ok memory r) Q' g' p (after_own busy o Q' es') good.own' (rank r.local holds.word)
              (own_self good.passes g.who p refl)
              (subst (λ n. NextOk n (carried_then memory r) good.own' o.call es' (Q' ∷ o.moments)) (sym went) (subst (λ v. NextOk (next_on holds.word holds.slot r) v good.own' o.call es' (Q' ∷ o.moments)) (sym same.carries) good.lands))
              (λ m small falls hurry. few_own busy o Q' es' (rank r.local holds.word) m 3 small falls hurry few)
              (λ one. subst (λ n. Falls n (rank r.local holds.word) (shared_then Kind.Single ok memory r).lock) (sym went)
              (subst (λ w. Falls (next_on holds.word holds.slot r) (rank r.local holds.word) w) (ap (λ x. x.lock) good.leaves ∙ sym word) (step_falls (rw (own_alone g p (others one)) at f.here) holds.stands)))
              (λ e. subst (λ n. IsReplying n) (sym went) (wait_free_ends holds.word holds.slot f.here e));
          idle = λ j ne free. own_other good.passes g.who p j refl ne ∙ free;
          others = λ busy' j x m ne many h. record {
            here = rw (own_other good.passes g.who p j refl ne) h.here;
            few = few_watched busy busy' Q' m (rank x.local holds.word) (rank x.local (shared_then Kind.Single ok memory r).lock) 3 many (rank_small x.local (shared_then Kind.Single ok memory r).lock)
                (λ e. let a = wait_free_one (shared_then Kind.Single ok memory r).lock h.here e in let b = wait_free_one holds.word h.here e in omega arith) h.few;
          };
        }

-- a call that lands has the reply that its last step tells of
replies_if : {T : Type 0} (x : Next ℕ) (v : Option T) (own : SlotHolder T) (k : Call T) (es : List (Effect T)) (ms : List (State T)) → NextOk x v own k es ms → CanReply x v
replies_if (Next.Step l t o) v own k es ms lands = tt
replies_if (Next.Reply x spare) v own k es ms lands = rw lands.2.1 refl

can_take : {T : Type 0} (busy : ℕ) (ok : Bool) (s : MemoryState T) (Q : State T) (g : LockHolder T) (p : ℕ) (r : Running T) (o : Open T)
    → SlotHolds s Q g → FitsIn busy s Q g p r o → CanStep Kind.Single ok s r
can_take {T} busy ok s Q g p r o holds f =
    rw holds.shared_is (
    let good = step_good f.here (share_of (p == g.who) g.hold) holds.stands holds.n o.moments in
    let same = same_step ok holds.word holds.slot f.here in
    let can = can_operate holds.word holds.slot f.here in
    record {
      touches = same.touches can.0;
      operates = same.operates;
      goes_on = subst (λ a. CanNext Kind.Single r.local a) (sym same.answers) can.2;
      replies = subst (λ a. CanReply (next_of Kind.Single r.local a) (carried_then (one_slot holds.word holds.slot) r)) (sym same.answers)
          (subst (λ v. CanReply (next_on holds.word holds.slot r) v) (sym same.carries)
          (replies_if (next_on holds.word holds.slot r) (slot.handed (slot.one_slot holds.word holds.slot) r.touch r.carried) good.own' o.call (with_effect o.effects good.e) (single good.items' good.c' good.n' ∷ o.moments) good.lands));
    })

fresh : {T : Type 0} (s : MemoryState T) (Q : State T) (g : LockHolder T) (p : ℕ) (k : Call T) (r : Running T) → Idle g p → At (stand_of r k []) Nobody → (busy : ℕ) → FitsIn busy s Q g p r (begun k)
fresh s Q g p k r free here busy = record { here = rw free here; few = few_begun busy k (rank r.local s.lock) 3 (rank_small r.local s.lock) (λ e. let one = wait_free_one s.lock here e in omega arith) }

begun_well : {T : Type 0} (s : MemoryState T) (Q : State T) (g : LockHolder T) (p : ℕ) (k : Call T) → SlotHolds s Q g → Idle g p
    → engine.BeginsWell T (MemoryState T) (Running T) (LockHolder T) (Some 1) (step_of Kind.Single) (start_of Kind.Single) (CanStep Kind.Single) SlotHolds Idle FitsIn s Q g p k (start_of Kind.Single k).call (start_of Kind.Single k).reply
begun_well s Q g p (Call.Push v) holds free = (refl, fresh s Q g p (Call.Push v) _ free (push_try v))
begun_well s Q g p (Call.ForcePush v) holds free = (refl, fresh s Q g p (Call.ForcePush v) _ free (force_try_empty v))
begun_well s Q g p Call.Pop holds free = (refl, fresh s Q g p Call.Pop _ free (pop_try false))
begun_well s Q g p Call.Close holds free = (refl, fresh s Q g p Call.Close _ free close_try)
begun_well s Q g p Call.Capacity holds free = (refl, sym (ap (λ q. q.cap) holds.queue_is))
begun_well s Q g p look holds free = (refl, fresh s Q g p look _ free (look_at _))

pub slot_engine : {T : Type 0} → LawsOf T Kind.Single (LockHolder T) SlotHolds Idle FitsIn
slot_engine {T} = record {
  can_step = λ busy ok s Q g p r o holds f. can_take busy ok s Q g p r o holds f;
  steps_well = λ busy ok s Q g p r o holds f others. stepped_well busy ok s Q g p r o holds f others;
  begins_well = λ s Q g p k holds free. begun_well s Q g p k holds free;
  joins_well = λ busy busy' s Q g p r o f. record { here = f.here; few = few_joined busy busy' o (rank r.local s.lock) 3 f.few };
}
