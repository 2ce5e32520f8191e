-- A call that has taken replies soon, while no other call is between its append and its reply. Nothing here knows a kind of queue.
use Rattle.std.proofs.Common.{◌≡◌, ◌≢◌, ◌∙◌, ℕ, ◌<◌, ◌≤◌, ◌==◌, if◌then◌else◌, Bool, true, false, Option, Some, None, List, [], ◌∷◌, count_by, refl, sym, ap, subst, arith, inl, inr}
use Rattle.std.proofs.lemmas.Bool.Decides.{eqb_tells}
use Rattle.queue_steps.specs.State.{State}
use Rattle.machine_replay.specs.Vocabulary.{Effect, Kind, Local, Event, Told, EffectKind, Step, Skipped, Ran, Running}
use Rattle.machine_replay.specs.Book.{Book, Open, Happens, Moves, at_open, begun}
use Rattle.machine_replay.{specs.Conforms.capacity_of, specs.Conforms.party_of, specs.Played.told_of, specs.Played.world_after, specs.Within.is_step_of, proofs.Progress.Stretch.count-cons}
use Rattle.machine_steps.specs.{Left.opening_world, Machine.event_of, Steps.CanStep, Steps.step_of, Steps.start_of, World.World, World.call_at}
use Rattle.machine_memory.specs.SharedMemory.{MemoryState}
use Rattle.machine_replay.proofs.Engine.Events as engine
use Rattle.machine_replay.proofs.Engine.KindLaws.{Rules}
use Rattle.machine_replay.proofs.Progress.{PartyGoes.PartyGoes, PartyGoes.skips, PartyGoes.beside, PartyGoes.begins, PartyGoes.replies, PartyGoes.goes_on, PartyGoes.ends, PartyGoes.party_goes, Appended.is_append, Appended.HasAppend}
use Rattle.machine_replay.proofs.Progress.{Had.Had, Had.In, Had.less, Had.in-next, Had.in-here, Had.nearer, Stretch.Here, Stretch.next, Stretch.first, Stretch.call-there, Stretch.fits-at}
use Rattle.machine_replay.specs.Progress.{Standing, Between, effect_told, stands_by, stands_then, writes_after, writes_then, writes_by, IsNotHeldUp, TakesReplyWithin}

abbrev pub is_take : EffectKind → Bool
is_take EffectKind.Take = true
is_take _ = false

-- an item was taken
abbrev pub HasTake : {T : Type 0} → List (Effect T) → Type 0
HasTake es = Had is_take es

-- a party that is not writing is in no call that has appended
abbrev pub MayWrite : {T : Type 0} → Bool → Option (Open T) → Type 0
MayWrite true y = Unit {0}
MayWrite {T} false y = (o : Open T) → y ≡ Some o → HasAppend o.effects → ⊥

may-on : {T : Type 0} (f : Open T → Open T) → ((o : Open T) → (f o).effects ≡ o.effects) → (b : Bool) (y : Option (Open T)) → MayWrite b y → MayWrite b (at_open f y)
may-on f same true y m = tt
may-on f same false None m = λ o e had. cc
may-on {T} f same false (Some x) m = λ o e had. let is : f x ≡ o = cc in m x refl (subst HasAppend (same x) (subst (λ z. HasAppend z.effects) (sym is) had))

may-none : {T : Type 0} (b : Bool) (y : Option (Open T)) → y ≡ None → MayWrite b y
may-none true y e = tt
may-none false y e = λ o f had. cc

may-begun : {T : Type 0} (b : Bool) (y : Option (Open T)) (mine : Open T) → y ≡ Some mine → mine.effects ≡ [] → MayWrite b y
may-begun true y mine e none = tt
may-begun false y mine e none = λ o f had. let is : mine ≡ o = (let g : Some mine ≡ Some o = sym e ∙ f in cc) in subst HasAppend none (subst (λ z. HasAppend z.effects) (sym is) had)

abbrev appends : Option EffectKind → Bool
appends None = false
appends (Some k) = is_append k

-- the call after its own step, where that was no append
kept : {T : Type 0} (b : Bool) (y : Option (Open T)) (o mine : Open T) (k : Option EffectKind) (Q R : State T) → y ≡ Some o → Moves Q o k R mine.effects → appends k ≡ false → MayWrite b y → MayWrite b (Some mine)
kept true y o mine k Q R is m ne may = tt
kept false y o mine None Q R is m ne may = λ u e had. let same : mine ≡ u = cc in may o is (subst HasAppend m.1 (subst (λ z. HasAppend z.effects) (sym same) had))
kept false y o mine (Some k) Q R is m ne may = λ u e had.
    let same : mine ≡ u = cc in
    may o is (less is_append o.effects m.0 (ap is_append m.1 ∙ ne) (subst HasAppend m.5 (subst (λ z. HasAppend z.effects) (sym same) had)))

own-step-may : {T : Type 0} (b : Bool) (y : Option (Open T)) (o mine : Open T) (k : Option EffectKind) (Q R : State T) → y ≡ Some o → Moves Q o k R mine.effects → MayWrite b y → MayWrite (writes_after {T = T} b (Ran k None)) (Some mine)
own-step-may b y o mine (Some EffectKind.Append) Q R is m may = tt
own-step-may b y o mine k Q R is m may = kept b y o mine k Q R is m refl may

own : {T : Type 0} (q : ℕ) (b : Bool) (e : Event T) (t : Told T) (y : Option (Open T)) → party_of e ≡ q → MayWrite (writes_after b t) y → MayWrite (writes_then q b e t) y
own q b e t y same a = elim (eqb_tells (party_of e) q) [ inl z ↦ rw z.0 a | inr z ↦ absurd (z.1 same) ]

others : {T : Type 0} (q : ℕ) (b : Bool) (e : Event T) (t : Told T) (y : Option (Open T)) → party_of e ≢ q → MayWrite b y → MayWrite (writes_then q b e t) y
others q b e t y ne a = elim (eqb_tells (party_of e) q) [ inl z ↦ absurd (ne z.1) | inr z ↦ rw z.0 a ]

skipped : {T : Type 0} (q : ℕ) (b : Bool) (e : Event T) → writes_then {T = T} q b e Skipped ≡ b
skipped q b e = elim (party_of e == q) as (λ z. (if z then b else b) ≡ b) [ true ↦ refl | false ↦ refl ]

may-next : {T : Type 0} (cap : Option ℕ) (parties : ℕ) (b c : Book T) (e : Event T) (t : Told T) (q : ℕ) (x : Bool) → Happens cap parties b e t c → MayWrite x (b.open_call q) → MayWrite (writes_then q x e t) (c.open_call q)
may-next {T} cap parties b c e t q x h = go (party_goes cap parties b c e t q h)
  where
    go : {t : Told T} {y z : Option (Open T)} → PartyGoes q e t y z → MayWrite x y → MayWrite (writes_then q x e t) z
    go (skips y) a = rw (skipped q x e) a
    go (beside t f y ne same) a = others q x e t (at_open f y) ne (may-on f same x y a)
    go (begins k own_event) a = own q x e (Ran None None) (Some (begun k)) own_event (may-begun x (Some (begun k)) (begun k) refl refl)
    go (replies r own_event) a = own q x e (Ran None (Some r)) None own_event (may-none false None refl)
    go (goes_on o mine k Q R own_event m) a = own q x e (Ran k None) (Some mine) own_event (own-step-may x (Some o) o mine k Q R refl m a)
    go (ends o k r own_event) a = own q x e (Ran k (Some r)) None own_event (may-none false None refl)

-- a party that is not writing and does not append is not writing
not_writing-next : {T : Type 0} (q : ℕ) (b : Bool) (e : Event T) (t : Told T) → b ≡ false → (party_of e ≡ q → effect_told t ≢ Some EffectKind.Append) → writes_then q b e t ≡ false
not_writing-next {T} q b e t is ne = elim (eqb_tells (party_of e) q) [ inl z ↦ rw (z.0, is) (go t (ne z.1)) | inr z ↦ rw z.0 is ]
  where
    go : (t : Told T) → effect_told t ≢ Some EffectKind.Append → writes_after false t ≡ false
    go (Ran k (Some r)) ne = refl
    go (Ran (Some EffectKind.Append) None) ne = absurd (ne refl)
    go t ne = refl

-- what a kind of queue owes: how many steps a call has before it that has taken, while no other party is clear, which is to write nothing
pub record Reads (T : Type 0) (k : Kind) (rules : Rules T k) : Type 1 where
  pub before : Local ℕ → ℕ
  pub most : ℕ
  pub Clear : rules.G → ℕ → Type 0
  pub Ready : rules.G → Type 0
  pub within : (busy : ℕ) (s : MemoryState T) (Q : State T) (g : rules.G) (p : ℕ) (r : Running T) (o : Open T) → rules.Holds s Q g → rules.Fits busy s Q g p r o → HasTake o.effects → (0 < before r.local) × (before r.local ≤ most)
  pub ready : (busy : ℕ) (s : MemoryState T) (Q : State T) (g : rules.G) (p : ℕ) (r : Running T) (o : Open T) → rules.Holds s Q g → rules.Fits busy s Q g p r o → HasTake o.effects → Ready g
  pub rests : (g : rules.G) (q : ℕ) → rules.Idle g q → Clear g q
  pub clears : (busy : ℕ) (s : MemoryState T) (Q : State T) (g : rules.G) (q : ℕ) (r : Running T) (o : Open T) → Ready g → rules.Fits busy s Q g q r o → (HasAppend o.effects → ⊥) → Clear g q
  pub falls : (busy : ℕ) (ok : Bool) (s : MemoryState T) (Q : State T) (g : rules.G) (p : ℕ) (r r' : Running T) (o : Open T) → rules.Holds s Q g → rules.Fits busy s Q g p r o → HasTake o.effects → ((j : ℕ) → j ≢ p → Clear g j)
      → (step_of k ok s r).call ≡ Some r' → before r'.local < before r.local

module _ (T : Type 0) (k : Kind) (laws : Rules T k) (parties : ℕ) (reads : Reads T k laws) where
  clear-if : (busy : ℕ) (s : MemoryState T) (Q : State T) (g : laws.G) (j : ℕ) (x : Option (Running T)) (y : Option (Open T)) → reads.Ready g
      → engine.Party T (MemoryState T) (Running T) laws.G (capacity_of k) (step_of k) (start_of k) (CanStep k) laws.Holds laws.Idle laws.Fits busy s Q g j x y → MayWrite false y → reads.Clear g j
  clear-if busy s Q g j None None ready h m = reads.rests g j h
  clear-if busy s Q g j (Some r) (Some o) ready h m = reads.clears busy s Q g j r o ready h (m o refl)
  clear-if busy s Q g j x y ready h m = absurd h

  takes-few : (w : World (MemoryState T) (Running T)) (st : ℕ → Standing) (wr : ℕ → Bool) (h : Here T k laws parties w st) → ((q : ℕ) → MayWrite (wr q) (h.b.open_call q)) → (p : ℕ) (r : Running T) → call_at w p ≡ Some r → In is_take (h.b.open_call p)
      → ((q : ℕ) → q ≢ p → wr q ≡ false) → (es : List (Event T)) → IsNotHeldUp p es (told_of k w es) → count_by (is_step_of p) es < reads.before r.local
  takes-few w st wr h may p r is a idle [] open_ = (reads.within h.b.busy w.shared h.b.queue h.sim.g p r a.0 h.sim.holds (fits-at T k laws parties w st h p r a.0 a.1 is) a.2).0
  takes-few w st wr h may p r is a idle (e ∷ es) open_ =
      let t = (event_of k true w e).1 in
      let n = next T k laws parties w st e h in
      let fits = fits-at T k laws parties w st h p r a.0 a.1 is in
      let ready = reads.ready h.b.busy w.shared h.b.queue h.sim.g p r a.0 h.sim.holds fits a.2 in
      let clear : (j : ℕ) → j ≢ p → reads.Clear h.sim.g j = λ j ne. clear-if h.b.busy w.shared h.b.queue h.sim.g j (call_at w j) (h.b.open_call j) ready (h.sim.each j) (subst (λ b. MayWrite b (h.b.open_call j)) (idle j ne) (may j)) in
      let a' = in-next is_take (capacity_of k) parties h.b n.here.b e t p n.happens open_.0 a in
      let f' = call-there T k laws parties n.here.b.busy (event_of k true w e).0.shared n.here.b.queue n.here.sim.g p (call_at (event_of k true w e).0 p) (n.here.b.open_call p) a'.0 (n.here.sim.each p) a'.1 in
      let wr' : ℕ → Bool = λ q. writes_then q (wr q) e t in
      let idle' : (q : ℕ) → q ≢ p → wr' q ≡ false = λ q ne. not_writing-next q (wr q) e t (idle q ne) (λ at. open_.1 (λ also. ne (sym at ∙ also))) in
      let rest = takes-few (event_of k true w e).0 (λ q. stands_then q (st q) e t) wr' n.here (λ q. may-next (capacity_of k) parties h.b n.here.b e t q (wr q) n.happens (may q)) p f'.0 f'.1 a' idle' es open_.2 in
      let step = nearer T k laws parties reads.before w p r f'.0 e is f'.1 (λ ok there. reads.falls h.b.busy ok w.shared h.b.queue h.sim.g p r f'.0 a.0 h.sim.holds fits a.2 clear there) in
      omega (arith, rest, step, count-cons p e es)

  -- and who writes, from the beginning on
  reach-may : (w : World (MemoryState T) (Running T)) (st : ℕ → Standing) (wr : ℕ → Bool) (es : List (Event T)) (h : Here T k laws parties w st) → ((q : ℕ) → MayWrite (wr q) (h.b.open_call q))
      → (h' : Here T k laws parties (world_after k w es) (λ q. stands_by q (st q) es (told_of k w es))) × ((q : ℕ) → MayWrite (writes_by q (wr q) es (told_of k w es)) (h'.b.open_call q))
  reach-may w st wr [] h may = (h, may)
  reach-may w st wr (e ∷ es) h may =
      let n = next T k laws parties w st e h in
      reach-may (event_of k true w e).0 (λ q. stands_then q (st q) e (event_of k true w e).1) (λ q. writes_then q (wr q) e (event_of k true w e).1) es n.here
      (λ q. may-next (capacity_of k) parties h.b n.here.b e (event_of k true w e).1 q (wr q) n.happens (may q))

pub takes_reply : (T : Type 0) (k : Kind) (laws : Rules T k) (reads : Reads T k laws) → TakesReplyWithin T k reads.most
takes_reply T k laws reads parties p past stretch granted takes idle open_ =
    let h0 = first T k laws parties in
    let r = reach-may T k laws parties reads (opening_world k parties) (λ q. Between) (λ q. false) past h0 (λ q. may-none false (h0.b.open_call q) (h0.agrees q)) in
    let h = r.0 in
    let w = world_after k (opening_world k parties) past in
    let st : ℕ → Standing = λ q. stands_by q Between past (told_of k (opening_world k parties) past) in
    let wr : ℕ → Bool = λ q. writes_by q false past (told_of k (opening_world k parties) past) in
    let e : Event T = Step p granted in
    let n = next T k laws parties w st e h in
    let t = (event_of k true w e).1 in
    let told : t ≡ Ran (Some EffectKind.Take) None = cc in
    let a = in-here is_take (capacity_of k) parties h.b n.here.b p granted EffectKind.Take refl t told n.happens in
    let f = call-there T k laws parties n.here.b.busy (event_of k true w e).0.shared n.here.b.queue n.here.sim.g p (call_at (event_of k true w e).0 p) (n.here.b.open_call p) a.0 (n.here.sim.each p) a.1 in
    let idle' : (q : ℕ) → q ≢ p → writes_then q (wr q) e t ≡ false = λ q ne. not_writing-next q (wr q) e t (idle q ne) (λ at. absurd (ne (sym at))) in
    let few = takes-few T k laws parties reads (event_of k true w e).0 (λ q. stands_then q (st q) e t) (λ q. writes_then q (wr q) e t) n.here
    (λ q. may-next (capacity_of k) parties h.b n.here.b e t q (wr q) n.happens (r.1 q)) p f.0 f.1 a idle' stretch open_.2 in
    let low = reads.within n.here.b.busy (event_of k true w e).0.shared n.here.b.queue n.here.sim.g p f.0 a.0 n.here.sim.holds f.2 a.2 in
    omega (arith, few, low.1)

-- a call that ends at its next step
pub takes_reply-next : (T : Type 0) (k : Kind) (laws : Rules T k)
    → ((busy : ℕ) (ok : Bool) (s : MemoryState T) (Q : State T) (g : laws.G) (p : ℕ) (r r' : Running T) (o : Open T) → laws.Fits busy s Q g p r o → HasTake o.effects → (step_of k ok s r).call ≡ Some r' → ⊥) → TakesReplyWithin T k 1
takes_reply-next T k laws last = takes_reply T k laws (record {
  before = λ l. 1;
  most = 1;
  Clear = λ g q. Unit {0};
  Ready = λ g. Unit {0};
  within = λ busy s Q g p r o holds f had. (omega arith, omega arith);
  ready = λ busy s Q g p r o holds f had. tt;
  rests = λ g q h. tt;
  clears = λ busy s Q g q r o ready f none. tt;
  falls = λ busy ok s Q g p r r' o holds f had clear goes. absurd (last busy ok s Q g p r r' o f had goes);
})
