-- One slot: who waits for whom, step by step.
use Rattle.std.proofs.Common.{ℕ, ◌≡◌, ◌≢◌, ◌∙◌, Bool, true, false, Option, Some, None, List, refl, sym, ap, subst}
use Rattle.std.proofs.lemmas.Bool.{eq-eqb}
use Rattle.queue_steps.specs.{Next.next_of, SlotNext.unlocked}
use Rattle.queue_steps.specs.declared.steps.slot.SlotLocal.TheVariants.{Pushing, Pushed, Forcing, Forced, Popping, Popped}
use Rattle.machine_replay.specs.{Vocabulary.Kind, Vocabulary.Answer, Vocabulary.Local, Vocabulary.Running, Book.Open, Played.told_of, Played.world_after, Progress.Standing, Progress.Between, Progress.stands_by}
use Rattle.machine_replay.specs.Waits.{SlotWaits, SlotCallsWait, IsBeside, GoesOn, IsToUnlock, IsPushToUnlock, IsPopToUnlock}
use Rattle.queue_laws.specs.{Common.Stand.Stand, Slot.SlotHolder.SlotHolder, Slot.SlotHolder.Nobody, Slot.SlotHolder.Taking, Slot.SlotHolder.LockHolder}
use Rattle.machine_replay.proofs.{Engine.StandOf.stand_of, Progress.Beside.beside, Progress.Beside.not_back, Slot.Coded.one_slot, Slot.Coded.same_step, Slot.Left.slot_rules, Progress.Stretch.Here, Progress.Stretch.Party, Progress.Stretch.reach, Progress.Stretch.first, Progress.Stretch.party-open}
use Rattle.queue_laws.specs.Slot.SlotShared as slot
use Rattle.queue_laws.specs.Slot.SlotRows.{Codes, free_empty, free_full, filling, swapping, taking, At, push_try, push_put, force_put_empty, force_put_full, pop_take}
use Rattle.machine_steps.specs.{Left.opening_world, Steps.step_of, Steps.running_after, Steps.carried_then, World.World, World.call_at}
use Rattle.machine_memory.specs.SharedMemory.{MemoryState}

-- where a call stands that has the lock
abbrev HolderAt : {T : Type 0} → SlotHolder T → Local ℕ → Type 0
HolderAt Nobody l = ⊥
HolderAt (Taking x) l = IsPopToUnlock l
HolderAt x l = IsPushToUnlock l

holds_at : {T : Type 0} {c : Stand T} {own : SlotHolder T} → At c own → own ≢ Nobody → HolderAt own c.local
holds_at (push_put v) some = tt
holds_at (force_put_empty v) some = tt
holds_at (force_put_full old v) some = tt
holds_at (pop_take x) some = tt
holds_at x some = absurd (some refl)

-- each step finds the word
finds : {T : Type 0} {c : Stand T} {own : SlotHolder T} (word : ℕ) (x : Option T) → At c own → slot.answered (slot.touched (slot.one_slot word x) c.touch c.carried) c.op ≡ Answer.Found word
finds word x (push_try v) = refl
finds word x y = refl

-- a party has the lock, and stands at such a step
abbrev Waits : {T : Type 0} → SlotHolder T → (Local ℕ → Type 0) → Type 0
Waits h Such = (h ≢ Nobody) × ((l : Local ℕ) → HolderAt h l → Such l)

whoever : (l : Local ℕ) → IsPushToUnlock l → IsToUnlock l
whoever (Local.Slot Pushed) a = tt
whoever (Local.Slot (Forced seen)) a = tt
whoever _ a = absurd a

or_a_pop : (l : Local ℕ) → IsPopToUnlock l → IsToUnlock l
or_a_pop (Local.Slot Popped) a = tt
or_a_pop _ a = absurd a

push_back : {T : Type 0} {word : ℕ} {x : Option T} {h : SlotHolder T} {items : List T} {c : Bool} (v : Option T) (y : Running T) → Codes word x h items c
    → running_after (next_of Kind.Single (Local.Slot Pushing) (Answer.Found word)) v ≡ Some y → y.local ≡ Local.Slot Pushing → Waits h IsPopToUnlock
push_back v y (free_empty false) goes back = let e = not_back y goes back in cc
push_back v y (free_full true x) goes back = cc
push_back v y (filling true z) goes back = cc
push_back v y (swapping true old z) goes back = cc
push_back v y (taking false z) goes back = (λ e. cc, λ l a. a)
push_back v y x goes back = cc

force_back : {T : Type 0} {word : ℕ} {x : Option T} {h : SlotHolder T} {items : List T} {c : Bool} (v : Option T) (y : Running T) (seen : ℕ) → Codes word x h items c
    → running_after (next_of Kind.Single (Local.Slot (Forcing (unlocked word))) (Answer.Found word)) v ≡ Some y → y.local ≡ Local.Slot (Forcing seen) → Waits h IsToUnlock
force_back v y seen (free_empty false) goes back = let e = not_back y goes back in cc
force_back v y seen (free_full false x) goes back = let e = not_back y goes back in cc
force_back v y seen (filling c z) goes back = (λ e. cc, whoever)
force_back v y seen (swapping c old z) goes back = (λ e. cc, whoever)
force_back v y seen (taking c z) goes back = (λ e. cc, or_a_pop)
force_back v y seen x goes back = cc

pop_back : {T : Type 0} {word : ℕ} {x : Option T} {h : SlotHolder T} {items : List T} {c : Bool} (v : Option T) (y : Running T) (seen : ℕ) → Codes word x h items c
    → running_after (next_of Kind.Single (Local.Slot (Popping (unlocked word))) (Answer.Found word)) v ≡ Some y → y.local ≡ Local.Slot (Popping seen) → Waits h IsPushToUnlock
pop_back v y seen (free_empty true) goes back = let e = not_back y goes back in cc
pop_back v y seen (free_full true x) goes back = let e = not_back y goes back in cc
pop_back v y seen (filling c z) goes back = (λ e. cc, λ l a. a)
pop_back v y seen (swapping c old z) goes back = (λ e. cc, λ l a. a)
pop_back v y seen (taking true z) goes back = cc
pop_back v y seen (taking false z) goes back = cc
pop_back v y seen x goes back = let e = not_back y goes back in cc

module _ {T : Type 0} (parties : ℕ) (w : World (MemoryState T) (Running T)) (st : ℕ → Standing) (h : Here T Kind.Single (slot_rules T) parties w st) where
  -- the party that has the lock is in a call, and stands where it gives it back
  holder : (busy : ℕ) (s : MemoryState T) (g : LockHolder T) (x : Option (Running T)) (y : Option (Open T)) → Party T Kind.Single (slot_rules T) parties busy s h.b.queue g g.who x y → g.hold ≢ Nobody → (r : Running T) × (x ≡ Some r) × HolderAt g.hold r.local
  holder busy s g None None idle some = absurd (some (rw (eq-eqb g.who g.who refl) at idle))
  holder busy s g (Some r) (Some o) f some = (r, refl, holds_at (subst (At (stand_of r o.call o.effects)) (rw (eq-eqb g.who g.who refl) refl) f.here) some)
  holder busy s g x y f some = absurd f

  -- what a call does on the word that is there
  on_word : (p : ℕ) (r x : Running T) → call_at w p ≡ Some r → GoesOn Kind.Single w.shared r x → running_after (next_of Kind.Single r.local (Answer.Found w.shared.lock)) (carried_then w.shared r) ≡ Some x
  on_word p r x is goes =
      let holds = h.sim.holds in
      let o = party-open T Kind.Single (slot_rules T) parties h.b.busy w.shared h.b.queue h.sim.g p (call_at w p) (h.b.open_call p) r (h.sim.each p) is in
      subst (λ s. (step_of Kind.Single true s r).call ≡ Some x → running_after (next_of Kind.Single r.local (Answer.Found s.lock)) (carried_then s r) ≡ Some x) (sym holds.shared_is)
      (λ there. subst (λ a. running_after (next_of Kind.Single r.local a) (carried_then (one_slot holds.word holds.slot) r) ≡ Some x) ((same_step true holds.word holds.slot o.2.here).answers ∙ finds holds.word holds.slot o.2.here) there) goes

  found : (p : ℕ) (r : Running T) (Such : Local ℕ → Type 0) → call_at w p ≡ Some r → Waits h.sim.g.hold Such → (Such r.local → ⊥) → IsBeside w p Such
  found p r Such is waits never =
      let g = h.sim.g in
      let by = holder h.b.busy w.shared g (call_at w g.who) (h.b.open_call g.who) (h.sim.each g.who) waits.0 in
      beside w p g.who r by.0 Such is by.1 (waits.1 by.0.local by.2) never

  stands : Codes w.shared.lock h.sim.holds.slot h.sim.g.hold h.sim.holds.items h.sim.holds.c
  stands = subst (λ n. Codes n h.sim.holds.slot h.sim.g.hold h.sim.holds.items h.sim.holds.c) (sym (ap (λ s. s.lock) h.sim.holds.shared_is)) h.sim.holds.stands

  on : (l : Local ℕ) (p : ℕ) (r x : Running T) → call_at w p ≡ Some r → GoesOn Kind.Single w.shared r x → r.local ≡ l → running_after (next_of Kind.Single l (Answer.Found w.shared.lock)) (carried_then w.shared r) ≡ Some x
  on l p r x is goes at = subst (λ z. running_after (next_of Kind.Single z (Answer.Found w.shared.lock)) (carried_then w.shared r) ≡ Some x) at (on_word p r x is goes)

  rows : (p : ℕ) (r x : Running T) → call_at w p ≡ Some r → GoesOn Kind.Single w.shared r x → SlotWaits w p r x
  rows p r x is goes = record {
    push = λ at back. found p r IsPopToUnlock is (push_back (carried_then w.shared r) x stands (on _ p r x is goes at) back) (λ such. subst IsPopToUnlock at such);
    force = λ seen at back. found p r IsToUnlock is (force_back (carried_then w.shared r) x seen stands (on _ p r x is goes at) back) (λ such. subst IsToUnlock at such);
    pop = λ seen at back. found p r IsPushToUnlock is (pop_back (carried_then w.shared r) x seen stands (on _ p r x is goes at) back) (λ such. subst IsPushToUnlock at such);
  }

pub slot_waits : (T : Type 0) → SlotCallsWait T
slot_waits T parties p past r x is goes =
    let st : ℕ → Standing = λ q. stands_by q Between past (told_of Kind.Single (opening_world Kind.Single parties) past) in
    rows parties (world_after Kind.Single (opening_world Kind.Single parties) past) st (reach T Kind.Single (slot_rules T) parties (opening_world Kind.Single parties) (λ q. Between) past (first T Kind.Single (slot_rules T) parties)) p r x is goes
