-- Where a call stands tells whether it has had an effect.
use Rattle.std.proofs.Common.{◌≡◌, ◌≢◌, ◌∙◌, ℕ, Bool, true, false, Option, Some, None, List, [], ◌∷◌, refl, sym, ap}
use Rattle.queue_steps.specs.{State.State, declared.steps.types.Kind.Kind, declared.steps.types.Kind.Kind as kind, declared.sizes.TheConstants.MAX_CAPACITY}
use Rattle.std.proofs.lemmas.Bool.{ltb-false}
use Rattle.queue_laws.specs.Chain.ChainAt as chain
use Rattle.queue_laws.specs.{Chain.ChainCells.Chain, Common.Stand.Stand, Ring.RingCells.Ring, Slot.SlotHolder.SlotHolder}
use Rattle.queue_laws.specs.Ring.RingAt as ring
use Rattle.queue_laws.specs.Slot.SlotRows as slot
use Rattle.machine_memory.specs.{declared.calls.Running.Running, declared.types.Event.Event, SharedMemory.MemoryState}
use Rattle.machine_steps.specs.{Left.opening_world, World.call_at}
use Rattle.machine_replay.specs.{Book.Open, Played.local_in, Played.world_after, Progress.Standing as CallStanding, Progress.Between, Progress.Undone, Progress.HalfDone, Progress.standing, Replays.CanReplay, Replays.is_too_large}
use Rattle.machine_replay.proofs.{Chain.Kind.chain_rules, Ring.Kind.ring_rules, Slot.Left.slot_rules, Engine.KindLaws.Rules, Progress.Standings.Agrees, Progress.Stretch.Party, Progress.Stretch.first, Progress.Stretch.reach}
use Rattle.machine_explore.specs.{Waiting.is_half_done, WaitTables.is_half_done_at}

has_some : {X : Type 0} → List X → Bool
has_some [] = false
has_some (x ∷ xs) = true

-- one slot
slot_half : {T : Type 0} {c : Stand T} {own : SlotHolder T} → slot.At c own → is_half_done_at (Some c.local) ≡ has_some c.effects
unfolding has_some
slot_half (slot.push_put v) = refl
slot_half (slot.force_put_empty v) = refl
slot_half (slot.force_put_full old v) = refl
slot_half (slot.pop_take x) = refl
slot_half x = refl

-- a ring
ring_half : {A : Type 0} {cap : ℕ} {r : Ring A} {who : ℕ} {ms : List (State A)} {was : Bool} {c : Stand A} → ring.At cap r who ms was c → is_half_done_at (Some c.local) ≡ has_some c.effects
unfolding has_some
ring_half (ring.filling d v q holds) = refl
ring_half (ring.arriving old v t h low is holds) = refl
ring_half (ring.swapping old v h holds) = refl
ring_half (ring.emptying x h holds) = refl
ring_half x = refl

-- a chain
chain_half : {A : Type 0} {g : Chain A} {who : ℕ} {ms : List (State A)} {c : Stand A} → chain.At g who ms c → is_half_done_at (Some c.local) ≡ has_some c.effects
unfolding has_some
chain_half (chain.push_tail d v spare holds has) = refl
chain_half x = refl

-- whatever the kind of queue
abbrev HalfTold : (k : Kind) → Rules ℕ k → Type 0
HalfTold k rules = (busy : ℕ) (s : MemoryState ℕ) (Q : State ℕ) (g : rules.G) (p : ℕ) (r : Running ℕ) (o : Open ℕ) → rules.Fits busy s Q g p r o → is_half_done_at (Some r.local) ≡ has_some o.effects

some_if : {X : Type 0} (xs : List X) → xs ≢ [] → has_some xs ≡ true
unfolding has_some
some_if [] ne = absurd (ne refl)
some_if (x ∷ xs) ne = refl

none_if : {X : Type 0} (xs : List X) → xs ≡ [] → has_some xs ≡ false
unfolding has_some
none_if xs e = rw e refl

module _ (k : Kind) (rules : Rules ℕ k) (tells : HalfTold k rules) (parties : ℕ) where
  by_call : (busy : ℕ) (s : MemoryState ℕ) (Q : State ℕ) (g : rules.G) (q : ℕ) (z : CallStanding) (x : Option (Running ℕ)) (y : Option (Open ℕ)) → Party ℕ k rules parties busy s Q g q x y → Agrees z y → is_half_done z ≡ is_half_done_at (local_in x)
  by_call busy s Q g q Between None None h a = refl
  by_call busy s Q g q Undone x None h a = let is = a.1 in cc
  by_call busy s Q g q HalfDone x None h a = let is = a.1 in cc
  by_call busy s Q g q Between x (Some o) h a = cc
  by_call busy s Q g q Undone (Some r) (Some o) h a =
      let same : a.0 ≡ o = (let is = a.1 in cc) in
      sym (tells busy s Q g q r o h ∙ none_if o.effects (ap (λ (z : Open ℕ). z.effects) (sym same) ∙ a.2))
  by_call busy s Q g q HalfDone (Some r) (Some o) h a =
      let same : a.0 ≡ o = (let is = a.1 in cc) in
      sym (tells busy s Q g q r o h ∙ some_if o.effects (λ none. a.2 (ap (λ (z : Open ℕ). z.effects) same ∙ none)))
  by_call busy s Q g q z None (Some o) h a = absurd h
  by_call busy s Q g q z (Some r) None h a = absurd h

  half_by : (q : ℕ) (past : List (Event ℕ)) → is_half_done (standing k parties q past) ≡ is_half_done_at (local_in (call_at (world_after k (opening_world k parties) past) q))
  half_by q past =
      let w = world_after k (opening_world k parties) past in
      let h = reach ℕ k rules parties (opening_world k parties) (λ j. Between) past (first ℕ k rules parties) in
      by_call h.b.busy w.shared h.b.queue h.sim.g q (standing k parties q past) (call_at w q) (h.b.open_call q) (h.sim.each q) (h.agrees q)

-- in a run, who is half done is known by where the calls stand
pub half_told : (k : Kind) (parties q : ℕ) (past : List (Event ℕ)) → CanReplay k → is_too_large k ≡ false → is_half_done (standing k parties q past) ≡ is_half_done_at (local_in (call_at (world_after k (opening_world k parties) past) q))
half_told kind.Single parties q past can small = half_by kind.Single (slot_rules ℕ) (λ busy s Q g p r o f. slot_half f.here) parties q past
half_told (kind.Bounded n) parties q past can small =
    half_by (kind.Bounded n) (ring_rules n (can, ltb-false MAX_CAPACITY n small)) (λ busy s Q g p r o f. ring_half f.here) parties q past
half_told kind.Unbounded parties q past can small = half_by kind.Unbounded (chain_rules ℕ) (λ busy s Q g p r o f. chain_half f.here) parties q past
