-- One slot: a call that nobody hinders replies by its third step.
use Rattle.std.proofs.Common.{ℕ, ◌<◌, ◌≡◌, ◌≢◌, ◌∙◌, Bool, true, false, Option, Some, List, [], ◌∷◌, refl, sym, ap, subst}
use Rattle.std.proofs.lemmas.Option.{none-some}
use Rattle.queue_steps.specs.{State.State, Next.next_of, declared.steps.slot.SlotLocal.TheVariants.Pushed, declared.steps.slot.SlotLocal.TheVariants.Forced, declared.steps.slot.SlotLocal.TheVariants.Popped}
use Rattle.machine_replay.specs.{Vocabulary.Kind, Vocabulary.Local, Vocabulary.Next, Vocabulary.Running, Book.Open, Progress.AppendsReplyWithin, Progress.TakesReplyWithin, Progress.HalfDoneTakesNone, Progress.UnhinderedWithin, Progress.NeverWaits}
use Rattle.queue_laws.specs.{Common.Stand.Stand, Slot.SlotHolder.SlotHolder, Slot.SlotHolder.Nobody, Slot.SlotHolder.Taking, Slot.SlotHolder.LockHolder, Slot.SlotHolder.Idle}
use Rattle.machine_replay.proofs.{Engine.StandOf.running_of, Slot.Coded.one_slot, Slot.Coded.same_step, Slot.Coded.shared_same, Slot.Laws.SlotHolds, Slot.Laws.FitsIn, Progress.Appended.HasAppend, Progress.Appended.appends_reply-next, Progress.Taken.HasTake}
use Rattle.machine_replay.proofs.Slot.Left.{slot_rules}
use Rattle.machine_replay.proofs.Progress.{Taken.takes_reply-next, Stretch.Paces, Stretch.unhindered, Stretch.never_waits, Stretch.waits_take_none}
use Rattle.queue_laws.specs.Slot.SlotShared as slot
use Rattle.queue_laws.specs.Slot.SlotRows.{Codes, free_empty, At, push_try, push_put, force_put_empty, force_put_full, pop_take, code}
use Rattle.queue_laws.proofs.Slot.{SlotHolder.own_alone, SlotRanks.rank, SlotRanks.rank_small, SlotRanks.rank_some, SlotRanks.Falls, SlotRanks.step_falls}
use Rattle.machine_memory.specs.SharedMemory.{MemoryState}
use Rattle.machine_steps.specs.Steps.{step_of, running_after, next_after, carried_then, shared_then}

-- a call that has had no effect has nothing of the lock
own_none : {T : Type 0} {c : Stand T} {own : SlotHolder T} → At c own → c.effects ≡ [] → own ≡ Nobody
own_none (push_put v) e = cc
own_none (force_put_empty v) e = cc
own_none (force_put_full old v) e = cc
own_none (pop_take x) e = cc
own_none x e = refl

-- the word, by what the lock's holder is about to do
held_word : {T : Type 0} → SlotHolder T → List T → Bool → ℕ
held_word Nobody [] c = code false false c
held_word Nobody (x ∷ xs) c = code false true c
held_word (Taking x) items c = code true false c
held_word x items c = code true true c

word_is : {T : Type 0} {word : ℕ} {slot : Option T} {h : SlotHolder T} {items : List T} {c : Bool} → Codes word slot h items c → word ≡ held_word h items c
unfolding held_word
word_is (free_empty c) = refl
word_is x = refl

-- the word, by where the call stands beside which nobody has the lock
word_at : {T : Type 0} → Local ℕ → List T → Bool → ℕ
word_at (Local.Slot Pushed) items c = code true true c
word_at (Local.Slot (Forced s)) items c = code true true c
word_at (Local.Slot Popped) items c = code true false c
word_at _ [] c = code false false c
word_at _ (x ∷ xs) c = code false true c

at_word : {T : Type 0} {c : Stand T} {own : SlotHolder T} (items : List T) (b : Bool) → At c own → held_word own items b ≡ word_at c.local items b
unfolding held_word word_at
at_word [] c (push_try v) = refl
at_word (x ∷ xs) c (push_try v) = refl
at_word items c x = refl

-- a call that goes on has fewer steps before it
goes_on : {T : Type 0} (n : Next ℕ) (v : Option T) (r : Running T) (m word : ℕ) → running_after n v ≡ Some r → Falls n m word → rank r.local word < m
goes_on (Next.Step l t o) v r m word e falls = let same : record { local = l; touch = t; op = o; carried = v } ≡ r = cc in subst (λ x. rank x.local word < m) same falls
goes_on (Next.Reply x spare) v r m word e falls = cc

module _ {T : Type 0} where
  lock_is : (busy : ℕ) (s : MemoryState T) (Q : State T) (g : LockHolder T) (p : ℕ) (r : Running T) (o : Open T) → SlotHolds s Q g → FitsIn busy s Q g p r o → ((j : ℕ) → j ≢ p → Idle g j) → s.lock ≡ word_at r.local Q.items Q.closed
  lock_is busy s Q g p r o holds f others =
      ap (λ c. c.lock) holds.shared_is ∙ (word_is holds.stands ∙ (ap (λ h. held_word h holds.items holds.c) (sym (own_alone g p others)) ∙ (at_word holds.items holds.c f.here ∙ ap (λ q. word_at r.local q.items q.closed) (sym holds.queue_is))))

  own_falls : (busy : ℕ) (ok : Bool) (s : MemoryState T) (Q : State T) (g : LockHolder T) (p : ℕ) (r r' : Running T) (o : Open T) → SlotHolds s Q g → FitsIn busy s Q g p r o → ((j : ℕ) → j ≢ p → Idle g j)
      → (step_of Kind.Single ok s r).call ≡ Some r' → rank r'.local (step_of Kind.Single ok s r).shared.lock < rank r.local s.lock
  own_falls busy ok s Q g p r r' o holds f others goes =
      subst (λ c. (step_of Kind.Single ok c r).call ≡ Some r' → rank r'.local (step_of Kind.Single ok c r).shared.lock < rank r.local c.lock) (sym holds.shared_is) from_here goes
    where
      from_here : (step_of Kind.Single ok (one_slot holds.word holds.slot) r).call ≡ Some r' → rank r'.local (step_of Kind.Single ok (one_slot holds.word holds.slot) r).shared.lock < rank r.local holds.word
      from_here goes =
          let memory = one_slot holds.word holds.slot in
          let after = slot.operated (slot.touched (slot.one_slot holds.word holds.slot) r.touch r.carried) r.op in
          let same = same_step ok holds.word holds.slot f.here in
          let left : shared_then Kind.Single ok memory r ≡ one_slot after.lock after.slot = shared_same ok memory r after.lock after.slot same.leaves in
          let went : next_after Kind.Single ok memory r ≡ next_of Kind.Single r.local (slot.answered (slot.touched (slot.one_slot holds.word holds.slot) r.touch r.carried) r.op) = ap (λ a. next_of Kind.Single r.local a) same.answers in
          let falls = step_falls (rw (own_alone g p others) at f.here) holds.stands in
          subst (λ w. rank r'.local w < rank r.local holds.word) (sym (ap (λ c. c.lock) left))
          (goes_on _ (carried_then memory r) r' (rank r.local holds.word) after.lock (subst (λ n. running_after n (carried_then memory r) ≡ Some r') went goes) falls)

slot_paces : (T : Type 0) → Paces T Kind.Single (slot_rules T)
slot_paces T = record {
  rank = λ s r. rank r.local s.lock;
  most = 3;
  Free = Idle;
  Ready = λ s r. Unit {0};
  within = λ busy s Q g p r o h holds f. (rank_some r.local s.lock, rank_small r.local s.lock);
  rests = λ g p h. h;
  undone = λ busy s Q g p r o holds f e. own_none f.here e;
  falls = λ busy ok s Q g p r r' o h holds f quiet goes. (tt, own_falls busy ok s Q g p r r' o holds f quiet goes);
  keeps = λ busy busy' s s' Q g g' p r o o' h holds holds' f f' others others' turn. (tt, ap (λ w. rank r.local w) (lock_is busy' s' Q g' p r o' holds' f' others' ∙ sym (lock_is busy s Q g p r o holds f others)));
}

pub slot_unhindered : (T : Type 0) → UnhinderedWithin T Kind.Single 3
unfolding slot_paces
slot_unhindered T = unhindered T Kind.Single (slot_rules T) (slot_paces T) (λ parties w st h p r is nobody. tt)

-- a call that has the lock ends at its next step
half_ends : {T : Type 0} {c : Stand T} {own : SlotHolder T} (ok : Bool) (s : MemoryState T) (r' : Running T) → At c own → c.effects ≢ []
    → (step_of Kind.Single ok s (running_of c)).call ≡ Some r' → ⊥
half_ends ok s r' (push_put v) some goes = none-some r' goes
half_ends ok s r' (force_put_empty v) some goes = none-some r' goes
half_ends ok s r' (force_put_full old v) some goes = none-some r' goes
half_ends ok s r' (pop_take x) some goes = none-some r' goes
half_ends ok s r' x some goes = absurd (some refl)

pub slot_never_waits : (T : Type 0) → NeverWaits T Kind.Single
slot_never_waits T = never_waits T Kind.Single (slot_rules T) (λ busy ok s Q g p r r' o f some goes quiet. half_ends ok s r' f.here some goes)

pub slot_takes_none : (T : Type 0) → HalfDoneTakesNone T Kind.Single
slot_takes_none T = waits_take_none T Kind.Single (slot_rules T) (λ busy ok s Q g p r r' o f some goes quiet. half_ends ok s r' f.here some goes)

-- a call that has appended ends at its next step
append_ends : {T : Type 0} {c : Stand T} {own : SlotHolder T} (ok : Bool) (s : MemoryState T) (r' : Running T) → At c own → HasAppend c.effects
    → (step_of Kind.Single ok s (running_of c)).call ≡ Some r' → ⊥
append_ends ok s r' (push_put v) had goes = none-some r' goes
append_ends ok s r' (force_put_empty v) had goes = none-some r' goes
append_ends ok s r' x had goes = absurd had

pub slot_appends : (T : Type 0) → AppendsReplyWithin T Kind.Single 1
slot_appends T = appends_reply-next T Kind.Single (slot_rules T) (λ busy ok s Q g p r r' o f had goes. append_ends ok s r' f.here had goes)

-- a call that has taken ends at its next step
pub slot_takes : (T : Type 0) → TakesReplyWithin T Kind.Single 1
slot_takes T = takes_reply-next T Kind.Single (slot_rules T) (λ busy ok s Q g p r r' o f had goes. half_ends ok s r' f.here (λ e. subst HasTake e had) goes)
