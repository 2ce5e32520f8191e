-- A call of `len` waits for nobody: while the tail is as it is, it replies by its fifth step.
use Rattle.std.proofs.Common.{◌≡◌, ◌≢◌, ◌∙◌, ℕ, ◌+◌, ◌<◌, ◌≤◌, ◌==◌, if◌then◌else◌, Bool, true, false, Option, Some, None, List, [], ◌∷◌, count_by, inl, inr, refl, sym, ap, subst, arith}
use Rattle.std.proofs.lemmas.Bool.{eq-eqb, ltb-false, Decides.eqb_tells}
use Rattle.queue_steps.specs.{State.State, declared.steps.slot.SlotLocal.TheVariants.Looking, declared.steps.chain.ChainLocal.ChainLocal as chain}
use Rattle.machine_replay.specs.{Book.Open, Played.told_of, Played.world_after, Progress.Standing, Progress.Between, Progress.stands_by, Progress.stands_then, Progress.IsNotAnswered, Waits.IsOfLen, Waits.IsTailKept, Waits.LenWaitsForNobody, Within.is_step_of}
use Rattle.machine_replay.specs.Vocabulary.{Kind, Local, Next, RingLocal, MAX_CAPACITY, Event, Running}
use Rattle.queue_laws.specs.{Slot.SlotHolder.SlotHolder, Common.Stand.Stand, Ring.RingCells.Ring, Chain.ChainCells.Chain}
use Rattle.queue_laws.specs.Slot.SlotRows as slot
use Rattle.machine_replay.proofs.{Engine.StandOf.running_of, Progress.Beside.same_call, Chain.Kind.chain_rules, Progress.Had.nearer, Ring.Kind.ring_rules, Slot.Left.slot_rules, Progress.Standings.Agrees, Progress.Standings.in_call-next}
use Rattle.queue_laws.specs.Ring.RingAt as ring
use Rattle.queue_laws.specs.Chain.ChainAt as links
use Rattle.machine_steps.specs.{Left.opening_world, Machine.event_of, Steps.step_of, Steps.running_after, World.World, World.call_at}
use Rattle.machine_memory.specs.SharedMemory.{MemoryState}
use Rattle.machine_replay.proofs.Engine.KindLaws.{Rules}
use Rattle.machine_replay.proofs.Progress.Stretch.{Here, next, reach, first, call-there, open-there, party-open, count-cons}

-- how many steps more are before a call that has read another tail
late : ℕ → ℕ → ℕ
late now read = if now == read then 0 else 3

late_same : (t : ℕ) → late t t ≡ 0
unfolding late
late_same t = rw (eq-eqb t t refl) refl

late_other : (t u : ℕ) → (t == u) ≡ false → late t u ≡ 3
unfolding late
late_other t u e = rw e refl

late_most : (t u : ℕ) → late t u ≤ 3
late_most t u = elim (eqb_tells t u) [ inl e ↦ let z : late t u ≡ 0 = ap (λ x. late t x) (sym e.1) ∙ late_same t in omega (arith, z) | inr e ↦ let z = late_other t u e.0 in omega (arith, z) ]

-- how many steps a call of `len` has before it, and more than any has at the steps of other calls
before : ℕ → Local ℕ → ℕ
before t (Local.Slot (Looking l)) = 1
before t (Local.Ring (RingLocal.CountTail l)) = 3
before t (Local.Ring (RingLocal.CountHead l u)) = 2 + late t u
before t (Local.Ring (RingLocal.CountAgain l u h)) = 1 + late t u
before t (Local.Chain (chain.CountTail l)) = 3
before t (Local.Chain (chain.CountHead l u)) = 2 + late t u
before t (Local.Chain (chain.CountAgain l u h)) = 1 + late t u
before t _ = 9

within : (t : ℕ) (l : Local ℕ) → IsOfLen l → (0 < before t l) × (before t l ≤ 5)
unfolding before
within t (Local.Slot (Looking l)) is = (omega arith, omega arith)
within t (Local.Ring (RingLocal.CountTail l)) is = (omega arith, omega arith)
within t (Local.Ring (RingLocal.CountHead l u)) is = let z = late_most t u in (omega arith, omega (arith, z))
within t (Local.Ring (RingLocal.CountAgain l u h)) is = let z = late_most t u in (omega arith, omega (arith, z))
within t (Local.Chain (chain.CountTail l)) is = (omega arith, omega arith)
within t (Local.Chain (chain.CountHead l u)) is = let z = late_most t u in (omega arith, omega (arith, z))
within t (Local.Chain (chain.CountAgain l u h)) is = let z = late_most t u in (omega arith, omega (arith, z))
within t _ is = absurd is

is_of_len : (t : ℕ) (l : Local ℕ) → before t l ≤ 5 → IsOfLen l
unfolding before
is_of_len t (Local.Slot (Looking l)) low = tt
is_of_len t (Local.Ring (RingLocal.CountTail l)) low = tt
is_of_len t (Local.Ring (RingLocal.CountHead l u)) low = tt
is_of_len t (Local.Ring (RingLocal.CountAgain l u h)) low = tt
is_of_len t (Local.Chain (chain.CountTail l)) low = tt
is_of_len t (Local.Chain (chain.CountHead l u)) low = tt
is_of_len t (Local.Chain (chain.CountAgain l u h)) low = tt
is_of_len t _ low = absurd (omega (arith, low))

-- what a kind of queue owes: a step of `len` brings it nearer to its reply, where it leaves the tail
abbrev Looks : (T : Type 0) (k : Kind) → Rules T k → Type 0
Looks T k rules = (busy : ℕ) (ok : Bool) (s : MemoryState T) (Q : State T) (g : rules.G) (p : ℕ) (r x : Running T) (o : Open T) → rules.Fits busy s Q g p r o → IsOfLen r.local → (step_of k ok s r).call ≡ Some x → before s.tail x.local < before s.tail r.local

module _ (T : Type 0) (k : Kind) (laws : Rules T k) (parties : ℕ) (looks : Looks T k laws) where
  in_a_call : (z : Standing) (y : Option (Open T)) (o : Open T) → Agrees z y → y ≡ Some o → z ≢ Between
  in_a_call z y o a e between = let none : y ≡ None = subst (λ z. Agrees z y) between a in cc

  takes-few : (w : World (MemoryState T) (Running T)) (st : ℕ → Standing) (h : Here T k laws parties w st) (p : ℕ) (r : Running T) (tail : ℕ) → call_at w p ≡ Some r → IsOfLen r.local → w.shared.tail ≡ tail
      → (es : List (Event T)) → IsTailKept k w es → IsNotAnswered p es (told_of k w es) → count_by (is_step_of p) es < before tail r.local
  takes-few w st h p r tail is len at_tail [] kept open_ = (within tail r.local len).0
  takes-few w st h p r tail is len at_tail (e ∷ es) kept open_ =
      let t = (event_of k true w e).1 in
      let n = next T k laws parties w st e h in
      let o = party-open T k laws parties h.b.busy w.shared h.b.queue h.sim.g p (call_at w p) (h.b.open_call p) r (h.sim.each p) is in
      let mine' = in_call-next p (st p) e t (in_a_call (st p) (h.b.open_call p) o.0 (h.agrees p) o.1) open_.0 in
      let o' = open-there T k laws parties (stands_then p (st p) e t) (n.here.b.open_call p) (n.here.agrees p) mine' in
      let f' = call-there T k laws parties n.here.b.busy (event_of k true w e).0.shared n.here.b.queue n.here.sim.g p (call_at (event_of k true w e).0 p) (n.here.b.open_call p) o'.0 (n.here.sim.each p) o'.1 in
      let step = nearer T k laws parties (before tail) w p r f'.0 e is f'.1
      (λ ok there. subst (λ u. before u f'.0.local < before u r.local) at_tail (looks h.b.busy ok w.shared h.b.queue h.sim.g p r f'.0 o.0 o.2 len there)) in
      let low = (within tail r.local len).1 in
      let len' = is_of_len tail f'.0.local (omega (arith, step, low)) in
      let rest = takes-few (event_of k true w e).0 (λ q. stands_then q (st q) e t) n.here p f'.0 tail f'.1 len' (kept.0 ∙ at_tail) es kept.1 open_.1 in
      omega (arith, rest, step, count-cons p e es)

  few : (p : ℕ) (past stretch : List (Event T)) (r : Running T) → call_at (world_after k (opening_world k parties) past) p ≡ Some r → IsOfLen r.local → IsTailKept k (world_after k (opening_world k parties) past) stretch
      → IsNotAnswered p stretch (told_of k (world_after k (opening_world k parties) past) stretch) → count_by (is_step_of p) stretch < 5
  few p past stretch r is len kept open_ =
      let w = world_after k (opening_world k parties) past in
      let st : ℕ → Standing = λ q. stands_by q Between past (told_of k (opening_world k parties) past) in
      let h = reach T k laws parties (opening_world k parties) (λ q. Between) past (first T k laws parties) in
      let count = takes-few w st h p r w.shared.tail is len refl stretch kept open_ in
      let low = (within w.shared.tail r.local len).1 in
      omega (arith, count, low)

-- on one slot it is one look
slot_looks : {T : Type 0} {c : Stand T} {own : SlotHolder T} (ok : Bool) (s : MemoryState T) (x : Running T) → slot.At c own → IsOfLen c.local
    → (step_of Kind.Single ok s (running_of c)).call ≡ Some x → before s.tail x.local < before s.tail c.local
slot_looks ok s x (slot.look_at l) is goes = cc
slot_looks ok s x y is goes = absurd is

-- the second read of the tail finds it as it was, or the call begins again
again : {A : Type 0} (now read : ℕ) (m l : Next ℕ) (v : Option A) (x : Running A) → (running_after m v ≡ Some x → ⊥) → (running_after l v ≡ Some x → before now x.local ≡ 3) → running_after (if now == read then m else l) v ≡ Some x → before now x.local < 1 + late now read
again now read m l v x ends begins goes = elim (eqb_tells now read) [
  | inl t ↦ absurd (ends (rw t.0 at goes))
  | inr t ↦ let three = begins (rw t.0 at goes) in let more = late_other now read t.0 in omega (arith, three, more)
]

ring_looks : {A : Type 0} {cap : ℕ} {r : Ring A} {who : ℕ} {ms : List (State A)} {was : Bool} {c : Stand A} (ok : Bool) (s : MemoryState A) (x : Running A) → ring.At cap r who ms was c → IsOfLen c.local
    → (step_of (Kind.Bounded cap) ok s (running_of c)).call ≡ Some x → before s.tail x.local < before s.tail c.local
unfolding before
ring_looks ok s x (ring.count_tail l count none) is goes = let same = same_call x goes in let z = late_same s.tail in subst (λ y. before s.tail y.local < 3) same (omega (arith, z))
ring_looks ok s x (ring.count_head l t count none low) is goes = let same = same_call x goes in subst (λ y. before s.tail y.local < 2 + late s.tail t) same (omega arith)
ring_looks ok s x (ring.count_again l t h count none seen) is goes = again s.tail t _ _ _ x (λ e. cc) (λ e. ap (λ y. before s.tail y.local) (sym (same_call x e))) goes
ring_looks ok s x _ is goes = absurd is

chain_looks : {A : Type 0} {c : Chain A} {who : ℕ} {ms : List (State A)} {k : Stand A} (ok : Bool) (s : MemoryState A) (x : Running A) → links.At c who ms k → IsOfLen k.local
    → (step_of Kind.Unbounded ok s (running_of k)).call ≡ Some x → before s.tail x.local < before s.tail k.local
unfolding before
chain_looks ok s x (links.count_tail l count none) is goes = let same = same_call x goes in let z = late_same s.tail in subst (λ y. before s.tail y.local < 3) same (omega (arith, z))
chain_looks ok s x (links.count_head l t count none small low) is goes = let same = same_call x goes in subst (λ y. before s.tail y.local < 2 + late s.tail t) same (omega arith)
chain_looks ok s x (links.count_again l t h count none small seen) is goes = again s.tail t _ _ _ x (λ e. cc) (λ e. ap (λ y. before s.tail y.local) (sym (same_call x e))) goes
chain_looks ok s x _ is goes = absurd is

pub len_waits : (T : Type 0) → LenWaitsForNobody T
len_waits T Kind.Single can small parties = few T Kind.Single (slot_rules T) parties (λ busy ok s Q g p r x o f is goes. slot_looks ok s x f.here is goes)
len_waits T (Kind.Bounded n) can small parties = few T (Kind.Bounded n) (ring_rules n (can, ltb-false MAX_CAPACITY n small)) parties (λ busy ok s Q g p r x o f is goes. ring_looks ok s x f.here is goes)
len_waits T Kind.Unbounded can small parties = few T Kind.Unbounded (chain_rules T) parties (λ busy ok s Q g p r x o f is goes. chain_looks ok s x f.here is goes)
