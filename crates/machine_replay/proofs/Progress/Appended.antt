-- A call that has appended replies soon, whatever the other parties do. Nothing here knows a kind of queue.
use Rattle.std.proofs.Common.{◌≡◌, ℕ, ◌<◌, ◌≤◌, Bool, true, false, Some, None, List, [], ◌∷◌, count_by, refl, arith}
use Rattle.queue_steps.specs.State.{State}
use Rattle.machine_replay.specs.{Book.Open, Conforms.capacity_of, Played.told_of, Played.world_after, Within.is_step_of, Progress.Standing, Progress.Between, Progress.stands_by, Progress.stands_then, Progress.IsNotAnswered, Progress.AppendsReplyWithin}
use Rattle.machine_replay.specs.Vocabulary.{Effect, Kind, Local, Event, EffectKind, Step, Ran, Running}
use Rattle.machine_steps.specs.{Left.opening_world, Machine.event_of, Steps.step_of, World.World, World.call_at}
use Rattle.machine_memory.specs.SharedMemory.{MemoryState}
use Rattle.machine_replay.proofs.Engine.KindLaws.{Rules}
use Rattle.machine_replay.proofs.Progress.{Had.Had, Had.In, Had.in-next, Had.in-here, Had.nearer, Stretch.Here, Stretch.next, Stretch.reach, Stretch.first, Stretch.call-there, Stretch.fits-at, Stretch.count-cons}

abbrev pub is_append : EffectKind → Bool
is_append EffectKind.Append = true
is_append _ = false

-- an item was appended
abbrev pub HasAppend : {T : Type 0} → List (Effect T) → Type 0
HasAppend es = Had is_append es

-- what a kind of queue owes: how many steps a call has before it that has appended
pub record Closes (T : Type 0) (k : Kind) (rules : Rules T k) : Type 1 where
  pub before : Local ℕ → ℕ
  pub most : ℕ
  pub within : (busy : ℕ) (s : MemoryState T) (Q : State T) (g : rules.G) (p : ℕ) (r : Running T) (o : Open T) → rules.Fits busy s Q g p r o → HasAppend o.effects → (0 < before r.local) × (before r.local ≤ most)
  pub falls : (busy : ℕ) (ok : Bool) (s : MemoryState T) (Q : State T) (g : rules.G) (p : ℕ) (r r' : Running T) (o : Open T) → rules.Fits busy s Q g p r o → HasAppend o.effects → (step_of k ok s r).call ≡ Some r' → before r'.local < before r.local

module _ (T : Type 0) (k : Kind) (laws : Rules T k) (parties : ℕ) (closes : Closes T k laws) where
  takes-few : (w : World (MemoryState T) (Running T)) (st : ℕ → Standing) (h : Here T k laws parties w st) (p : ℕ) (r : Running T) → call_at w p ≡ Some r → In is_append (h.b.open_call p)
      → (es : List (Event T)) → IsNotAnswered p es (told_of k w es) → count_by (is_step_of p) es < closes.before r.local
  takes-few w st h p r is a [] open_ = (closes.within h.b.busy w.shared h.b.queue h.sim.g p r a.0 (fits-at T k laws parties w st h p r a.0 a.1 is) a.2).0
  takes-few w st h p r is a (e ∷ es) open_ =
      let t = (event_of k true w e).1 in
      let n = next T k laws parties w st e h in
      let a' = in-next is_append (capacity_of k) parties h.b n.here.b e t p n.happens open_.0 a in
      let f' = call-there T k laws parties n.here.b.busy (event_of k true w e).0.shared n.here.b.queue n.here.sim.g p (call_at (event_of k true w e).0 p) (n.here.b.open_call p) a'.0 (n.here.sim.each p) a'.1 in
      let rest = takes-few (event_of k true w e).0 (λ q. stands_then q (st q) e t) n.here p f'.0 f'.1 a' es open_.1 in
      let step = nearer T k laws parties closes.before w p r f'.0 e is f'.1 (λ ok there. closes.falls h.b.busy ok w.shared h.b.queue h.sim.g p r f'.0 a.0 (fits-at T k laws parties w st h p r a.0 a.1 is) a.2 there) in
      omega (arith, rest, step, count-cons p e es)

pub appends_reply : (T : Type 0) (k : Kind) (laws : Rules T k) (closes : Closes T k laws) → AppendsReplyWithin T k closes.most
appends_reply T k laws closes parties p past stretch granted appends open_ =
    let h = reach T k laws parties (opening_world k parties) (λ q. Between) past (first T k laws parties) in
    let w = world_after k (opening_world k parties) past in
    let st : ℕ → Standing = λ q. stands_by q Between past (told_of k (opening_world k parties) past) in
    let e : Event T = Step p granted in
    let n = next T k laws parties w st e h in
    let t = (event_of k true w e).1 in
    let told : t ≡ Ran (Some EffectKind.Append) None = cc in
    let a = in-here is_append (capacity_of k) parties h.b n.here.b p granted EffectKind.Append refl t told n.happens in
    let f = call-there T k laws parties n.here.b.busy (event_of k true w e).0.shared n.here.b.queue n.here.sim.g p (call_at (event_of k true w e).0 p) (n.here.b.open_call p) a.0 (n.here.sim.each p) a.1 in
    let few = takes-few T k laws parties closes (event_of k true w e).0 (λ q. stands_then q (st q) e t) n.here p f.0 f.1 a stretch open_.1 in
    let low = closes.within n.here.b.busy (event_of k true w e).0.shared n.here.b.queue n.here.sim.g p f.0 a.0 f.2 a.2 in
    omega (arith, few, low.1)

-- a call that ends at its next step
pub appends_reply-next : (T : Type 0) (k : Kind) (laws : Rules T k)
    → ((busy : ℕ) (ok : Bool) (s : MemoryState T) (Q : State T) (g : laws.G) (p : ℕ) (r r' : Running T) (o : Open T) → laws.Fits busy s Q g p r o → HasAppend o.effects → (step_of k ok s r).call ≡ Some r' → ⊥) → AppendsReplyWithin T k 1
appends_reply-next T k laws last = appends_reply T k laws (record {
  before = λ l. 1;
  most = 1;
  within = λ busy s Q g p r o f had. (omega arith, omega arith);
  falls = λ busy ok s Q g p r r' o f had goes. absurd (last busy ok s Q g p r r' o f had goes);
})
