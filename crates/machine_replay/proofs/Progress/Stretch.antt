-- A stretch of a run in which nobody hinders a call: each of its steps brings it nearer to its reply, and no other step takes it back. Nothing here knows a kind of queue.
use Rattle.std.proofs.Common.{◌≡◌, ◌≢◌, ◌∙◌, ◌⊎◌, ℕ, ◌+◌, ◌<◌, ◌≤◌, ◌==◌, ◌&&◌, nat_lt, Bool, true, false, cond, if◌then◌else◌, Option, Some, None, is_none, List, [], ◌∷◌, length, set, get_or-set_same, get_or-set_other, count_by, refl, sym, ap, subst, arith, inl, inr}
use Rattle.std.proofs.lemmas.{List.length-replicate, Bool.ltb-true, List.Sums.sum_by-append, Bool.Decides.eqb_tells}
use Rattle.queue_steps.specs.State.{State}
use Rattle.machine_replay.specs.Vocabulary.{Call, Reply, Kind, Event, Told, Begin, Step, Skipped, Ran, Running}
use Rattle.machine_replay.specs.{Book.Book, Book.Open, Book.Happens, Book.opening, Conforms.capacity_of, Conforms.party_of, Played.told_of, Played.world_after, Within.is_step_of}
use Rattle.machine_memory.{specs.SharedMemory.MemoryState, proofs.Busy.nobody_calls, proofs.Busy.none_are_busy}
use Rattle.machine_steps.specs.{Left.opening_world, Machine.event_of, Steps.CanStep, Steps.step_of, Steps.start_of, World.World, World.call_at, World.can_begin, World.began, World.stepped_if}
use Rattle.machine_replay.proofs.Engine.Events as engine
use Rattle.machine_replay.proofs.{Engine.KindLaws.SimulatesOf, Engine.KindLaws.Rules, Progress.Standings.Agrees, Progress.Standings.agrees-next, Progress.Standings.in_call-next, Progress.Standings.not_half-next}
use Rattle.machine_replay.specs.Progress.{Standing, Between, Undone, HalfDone, stands_after, stands_by, stands_then, effect_told, reply_told, IsLeftToIt, NobodyShows, IsSilent, HalfDoneTakesNone, UnhinderedWithin, NeverWaits}

-- another party took this step, before which it had had no effect, and which had none
pub record Turns {T : Type 0} {k : Kind} (rules : Rules T k) (s s' : MemoryState T) (Q : State T) (g : rules.G) : Type 0 where
  pub busy : ℕ
  pub who : ℕ
  pub granted : Bool
  pub call : Running T
  pub o : Open T
  pub fits : rules.Fits busy s Q g who call o
  pub none : o.effects ≡ []
  pub quiet : (step_of k granted s call).effect ≡ None
  pub leaves : s' ≡ (step_of k granted s call).shared

-- what a kind of queue owes besides: how many steps a call has before it at most, while every other party is free, which holds nothing of the queue
pub record Paces (T : Type 0) (k : Kind) (rules : Rules T k) : Type 1 where
  pub rank : MemoryState T → Running T → ℕ
  pub most : ℕ
  pub Free : rules.G → ℕ → Type 0
  -- what is so of the queue beside this call
  pub Ready : MemoryState T → Running T → Type 0
  pub within : (busy : ℕ) (s : MemoryState T) (Q : State T) (g : rules.G) (p : ℕ) (r : Running T) (o : Open T) → Ready s r → rules.Holds s Q g → rules.Fits busy s Q g p r o → (0 < rank s r) × (rank s r ≤ most)
  -- a party between calls is free, and so is one whose call has had no effect
  pub rests : (g : rules.G) (p : ℕ) → rules.Idle g p → Free g p
  pub undone : (busy : ℕ) (s : MemoryState T) (Q : State T) (g : rules.G) (p : ℕ) (r : Running T) (o : Open T) → rules.Holds s Q g → rules.Fits busy s Q g p r o → o.effects ≡ [] → Free g p
  -- its own step
  pub falls : (busy : ℕ) (ok : Bool) (s : MemoryState T) (Q : State T) (g : rules.G) (p : ℕ) (r r' : Running T) (o : Open T) → Ready s r → rules.Holds s Q g → rules.Fits busy s Q g p r o → ((j : ℕ) → j ≢ p → Free g j)
      → (step_of k ok s r).call ≡ Some r' → Ready (step_of k ok s r).shared r' × (rank (step_of k ok s r).shared r' < rank s r)
  -- the step of another party, or none
  pub keeps : (busy busy' : ℕ) (s s' : MemoryState T) (Q : State T) (g g' : rules.G) (p : ℕ) (r : Running T) (o o' : Open T) → Ready s r → rules.Holds s Q g → rules.Holds s' Q g' → rules.Fits busy s Q g p r o → rules.Fits busy' s' Q g' p r o'
      → ((j : ℕ) → j ≢ p → Free g j) → ((j : ℕ) → j ≢ p → Free g' j) → (s' ≡ s) ⊎ Turns rules s s' Q g → Ready s' r × (rank s' r ≡ rank s r)

-- one step more is counted
pub count-cons : {T : Type 0} (p : ℕ) (e : Event T) (es : List (Event T)) → count_by (is_step_of p) (e ∷ es) ≡ cond (is_step_of p e) 1 0 + count_by (is_step_of p) es
count-cons p e es = sum_by-append (λ y. cond (is_step_of p y) 1 0) (e ∷ []) es ∙ ap (λ n. n + count_by (is_step_of p) es) (omega arith)

-- the call at another place of a list
other-call : {S R T : Type 0} (w : World S R) (p q : ℕ) (b : Bool) (x : Option R) (y : Option (Reply T)) → p ≢ q
    → call_at (if◌then◌else◌ {A = World S R × Told T} b (began w q x y) (w, Skipped)).0 p ≡ call_at w p
other-call w p q true (Some r) y ne = get_or-set_other w.calls q p (Some r) None ne
other-call w p q b x y ne = refl

module _ (T : Type 0) (k : Kind) (laws : Rules T k) (parties : ℕ) where
  abbrev pub Sim : World (MemoryState T) (Running T) → Book T → Type 0
  Sim w b = SimulatesOf T k laws.G laws.Holds laws.Idle laws.Fits parties w b

  abbrev pub Party : ℕ → MemoryState T → State T → laws.G → ℕ → Option (Running T) → Option (Open T) → Type 0
  Party = engine.Party T (MemoryState T) (Running T) laws.G (capacity_of k) (step_of k) (start_of k) (CanStep k) laws.Holds laws.Idle laws.Fits

  -- another party's event leaves the call in progress
  pub other-stays : (w : World (MemoryState T) (Running T)) (p : ℕ) (e : Event T) → party_of e ≢ p → call_at (event_of k true w e).0 p ≡ call_at w p
  other-stays w p (Begin q c) ne = other-call w p q (can_begin w q) (start_of k c).call (start_of k c).reply (λ e. ne (sym e))
  other-stays w p (Step q g) ne = go (call_at w q)
    where
      go : (x : Option (Running T)) → call_at (stepped_if (step_of k) w (g && true) q x).0 p ≡ call_at w p
      go None = refl
      go (Some r) = get_or-set_other w.calls q p (step_of k (g && true) w.shared r).call None (λ e. ne (sym e))

  -- a party in a call begins none
  pub begin-stays : (w : World (MemoryState T) (Running T)) (p : ℕ) (c : Call T) (r : Running T) → call_at w p ≡ Some r → call_at (event_of k true w (Begin p c)).0 p ≡ call_at w p
  begin-stays w p c r is = go (nat_lt p (length w.calls))
    where
      go : (b : Bool) → call_at (if◌then◌else◌ {A = World (MemoryState T) (Running T) × Told T} (b && is_none (call_at w p)) (began w p (start_of k c).call (start_of k c).reply) (w, Skipped)).0 p ≡ call_at w p
      go true = rw (ap is_none is) refl
      go false = refl

  -- its own step
  pub own-step : (w : World (MemoryState T) (Running T)) (p : ℕ) (g : Bool) (r : Running T) → call_at w p ≡ Some r
      → (event_of k true w (Step p g)).0 ≡ record { shared = (step_of k (g && true) w.shared r).shared; calls = set w.calls p (step_of k (g && true) w.shared r).call }
  own-step w p g r is = ap (λ x. (stepped_if (step_of k) w (g && true) p x).0) is

  pub call-there : (busy : ℕ) (s : MemoryState T) (Q : State T) (g : laws.G) (p : ℕ) (x : Option (Running T)) (y : Option (Open T)) (o : Open T) → Party busy s Q g p x y → y ≡ Some o → (r : Running T) × (x ≡ Some r) × laws.Fits busy s Q g p r o
  call-there busy s Q g p (Some r) (Some z) o h e = let same : z ≡ o = cc in (r, refl, subst (λ u. laws.Fits busy s Q g p r u) same h)
  call-there busy s Q g p None (Some z) o h e = absurd h
  call-there busy s Q g p x None o h e = cc

  pub open-there : (x : Standing) (y : Option (Open T)) → Agrees x y → x ≢ Between → (o : Open T) × (y ≡ Some o)
  open-there Between y a ne = absurd (ne refl)
  open-there x y a ne = (a.0, a.1)

  -- the queue is as it was where the event has no effect
  queue-same : (b c : Book T) (e : Event T) (t : Told T) → Happens (capacity_of k) parties b e t c → effect_told t ≡ None → c.queue ≡ b.queue
  queue-same b c e Skipped h none = ap (λ z. z.queue) h.1
  queue-same b c (Begin p d) (Ran None None) h none = ap (λ z. z.queue) h.2
  queue-same b c (Begin p d) (Ran None (Some r)) h none = ap (λ z. z.queue) h.3
  queue-same b c (Begin p d) (Ran (Some x) r) h none = absurd h
  queue-same b c (Step p g) (Ran None r) h none = h.1.moves.0
  queue-same b c (Step p g) (Ran (Some x) r) h none = cc

  -- a beginning has none
  begin-quiet : (b c : Book T) (p : ℕ) (d : Call T) (t : Told T) → Happens (capacity_of k) parties b (Begin p d) t c → effect_told t ≡ None
  begin-quiet b c p d (Ran (Some x) r) h = absurd h
  begin-quiet b c p d t h = refl

  -- where a run stands
  pub record Here (w : World (MemoryState T) (Running T)) (st : ℕ → Standing) : Type 0 where
    pub b : Book T
    pub sim : Sim w b
    pub agrees : (q : ℕ) → Agrees (st q) (b.open_call q)

  -- and after one event more
  pub record After (w : World (MemoryState T) (Running T)) (st : ℕ → Standing) (e : Event T) (b : Book T) : Type 0 where
    pub here : Here (event_of k true w e).0 (λ q. stands_then q (st q) e (event_of k true w e).1)
    pub happens : Happens (capacity_of k) parties b e (event_of k true w e).1 here.b

  pub next : (w : World (MemoryState T) (Running T)) (st : ℕ → Standing) (e : Event T) (h : Here w st) → After w st e h.b
  next w st e h =
      let led = engine.simulates_event T (MemoryState T) (Running T) laws.G (capacity_of k) (step_of k) (start_of k) (CanStep k) laws.Holds laws.Idle laws.Fits laws.laws parties w h.b h.sim true e in
      record {
        here = record { b = led.0; sim = led.2; agrees = λ q. agrees-next (capacity_of k) parties h.b led.0 e (event_of k true w e).1 q (st q) led.1 (h.agrees q) };
        happens = led.1;
      }

  -- the open call of a party that is in one fits
  pub fits-at : (w : World (MemoryState T) (Running T)) (st : ℕ → Standing) (h : Here w st) (p : ℕ) (r : Running T) (o : Open T) → h.b.open_call p ≡ Some o → call_at w p ≡ Some r → laws.Fits h.b.busy w.shared h.b.queue h.sim.g p r o
  fits-at w st h p r o at is =
      let f = call-there h.b.busy w.shared h.b.queue h.sim.g p (call_at w p) (h.b.open_call p) o (h.sim.each p) at in
      let same : f.0 ≡ r = (let e : Some f.0 ≡ Some r = sym f.1 ∙ is in cc) in
      subst (λ x. laws.Fits h.b.busy w.shared h.b.queue h.sim.g p x o) same f.2

  pub reach : (w : World (MemoryState T) (Running T)) (st : ℕ → Standing) (es : List (Event T)) → Here w st → Here (world_after k w es) (λ q. stands_by q (st q) es (told_of k w es))
  reach w st [] h = h
  reach w st (e ∷ es) h = reach (event_of k true w e).0 (λ q. stands_then q (st q) e (event_of k true w e).1) es (next w st e h).here

  pub first : Here (opening_world k parties) (λ q. Between)
  first = record {
    b = opening (capacity_of k);
    sim = record {
      g = laws.first;
      parties_are = length-replicate parties None;
      busy_is = sym (none_are_busy (Running T) parties);
      holds = laws.opens;
      each = λ p. rw (nobody_calls {X = Running T} parties p) (laws.all_idle p);
    };
    agrees = λ q. refl;
  }

  begun-shared : (w : World (MemoryState T) (Running T)) (q : ℕ) (b : Bool) (x : Option (Running T)) (y : Option (Reply T)) → (if◌then◌else◌ {A = World (MemoryState T) (Running T) × Told T} b (began w q x y) (w, Skipped)).0.shared ≡ w.shared
  begun-shared w q true (Some r) y = refl
  begun-shared w q b x y = refl

  open-effects : (z : Standing) (y : Option (Open T)) (o : Open T) → Agrees z y → z ≢ HalfDone → y ≡ Some o → o.effects ≡ []
  open-effects Between y o a ne e = cc
  open-effects Undone y o a ne e = let same : a.0 ≡ o = (let i = a.1 in cc) in ap (λ z. z.effects) (sym same) ∙ a.2
  open-effects HalfDone y o a ne e = absurd (ne refl)

  pub party-open : (busy : ℕ) (s : MemoryState T) (Q : State T) (g : laws.G) (q : ℕ) (x : Option (Running T)) (y : Option (Open T)) (r : Running T) → Party busy s Q g q x y → x ≡ Some r → (o : Open T) × (y ≡ Some o) × laws.Fits busy s Q g q r o
  party-open busy s Q g q (Some z) (Some o) r h e = let same : z ≡ r = cc in (o, refl, subst (λ u. laws.Fits busy s Q g q u o) same h)
  party-open busy s Q g q (Some z) None r h e = absurd h
  party-open busy s Q g q None y r h e = cc

  -- what an event that is no step of the call's own does to what is shared
  turn : (w : World (MemoryState T) (Running T)) (st : ℕ → Standing) (h : Here w st) (p : ℕ) (e : Event T) → ((q : ℕ) → q ≢ p → st q ≢ HalfDone) → effect_told (event_of k true w e).1 ≡ None → ((g : Bool) → e ≡ Step p g → ⊥)
      → ((event_of k true w e).0.shared ≡ w.shared) ⊎ Turns laws w.shared (event_of k true w e).0.shared h.b.queue h.sim.g
  turn w st h p (Begin q c) others none not_own = inl (begun-shared w q (can_begin w q) (start_of k c).call (start_of k c).reply)
  turn w st h p (Step q g) others none not_own = go (call_at w q) refl none
    where
      ne : q ≢ p
      ne at = not_own g (ap (λ i. Step i g) at)

      go : (x : Option (Running T)) → call_at w q ≡ x → effect_told (stepped_if (step_of k) w (g && true) q x).1 ≡ None
          → ((stepped_if (step_of k) w (g && true) q x).0.shared ≡ w.shared) ⊎ Turns laws w.shared (stepped_if (step_of k) w (g && true) q x).0.shared h.b.queue h.sim.g
      go None is quiet = inl refl
      go (Some r) is quiet =
          let o = party-open h.b.busy w.shared h.b.queue h.sim.g q (call_at w q) (h.b.open_call q) r (h.sim.each q) is in
          inr (record { busy = h.b.busy; who = q; granted = g && true; call = r; o = o.0; fits = o.2; none = open-effects (st q) (h.b.open_call q) o.0 (h.agrees q) (others q ne) o.1; quiet = quiet; leaves = refl })

  -- where each step of a call that has had an effect has another one or ends it, a half-done call never waits
  module _ (ends : (busy : ℕ) (ok : Bool) (s : MemoryState T) (Q : State T) (g : laws.G) (p : ℕ) (r r' : Running T) (o : Open T) → laws.Fits busy s Q g p r o → o.effects ≢ [] → (step_of k ok s r).call ≡ Some r' → (step_of k ok s r).effect ≡ None → ⊥) where
    silent-step : (w : World (MemoryState T) (Running T)) (st : ℕ → Standing) (h : Here w st) (p : ℕ) (granted : Bool) → st p ≡ HalfDone → effect_told (event_of k true w (Step p granted)).1 ≡ None → reply_told (event_of k true w (Step p granted)).1 ≡ None → ⊥
    silent-step w st h p granted half none unanswered =
        let e : Event T = Step p granted in
        let t = (event_of k true w e).1 in
        let o = subst (λ z. Agrees z (h.b.open_call p)) half (h.agrees p) in
        let f = call-there h.b.busy w.shared h.b.queue h.sim.g p (call_at w p) (h.b.open_call p) o.0 (h.sim.each p) o.1 in
        let a = next w st e h in
        let mine' = in_call-next p (st p) e t (λ z. let no : HalfDone ≡ Between = sym half ∙ z in cc) (λ _. unanswered) in
        let o' = open-there (stands_then p (st p) e t) (a.here.b.open_call p) (a.here.agrees p) mine' in
        let f' = call-there a.here.b.busy (event_of k true w e).0.shared a.here.b.queue a.here.sim.g p (call_at (event_of k true w e).0 p) (a.here.b.open_call p) o'.0 (a.here.sim.each p) o'.1 in
        let lt : p < length w.calls = ltb-true p (length w.calls) (engine.within T (MemoryState T) (Running T) laws.G (capacity_of k) (step_of k) (start_of k) (CanStep k) laws.Holds laws.Idle laws.Fits w p f.0 f.1) in
        let made = step_of k (granted && true) w.shared f.0 in
        let there : made.call ≡ Some f'.0 = sym (get_or-set_same w.calls p made.call None lt) ∙ (sym (ap (λ z. call_at z p) (own-step w p granted f.0 f.1)) ∙ f'.1) in
        let still_none : made.effect ≡ None = sym (ap (λ x. effect_told (stepped_if (step_of k) w (granted && true) p x).1) f.1) ∙ none in
        ends h.b.busy (granted && true) w.shared h.b.queue h.sim.g p f.0 f'.0 o.0 f.2 o.2 there still_none

    half-stays : (t : Told T) → effect_told t ≡ None → reply_told t ≡ None → stands_after HalfDone t ≡ HalfDone
    half-stays (Ran (Some x) None) none unanswered = cc
    half-stays (Ran x (Some r)) none unanswered = cc
    half-stays t none unanswered = refl

    -- so it takes no step where nobody has an effect and nobody gets a reply
    takes-none : (w : World (MemoryState T) (Running T)) (st : ℕ → Standing) (h : Here w st) (p : ℕ) (es : List (Event T)) → st p ≡ HalfDone → IsSilent (told_of k w es) → count_by (is_step_of p) es ≡ 0
    takes-none w st h p [] half silent = refl
    takes-none w st h p (e ∷ es) half silent =
        let t = (event_of k true w e).1 in
        let half' : stands_then p (st p) e t ≡ HalfDone = rw half (elim (party_of e == p) as (λ b. (if b then stands_after HalfDone t else HalfDone) ≡ HalfDone) [ true ↦ half-stays t silent.0 silent.1 | false ↦ refl ]) in
        let rest = takes-none (event_of k true w e).0 (λ q. stands_then q (st q) e t) (next w st e h).here p es half' silent.2 in
        count-cons p e es ∙ (ap (λ n. cond (is_step_of p e) 1 0 + n) rest ∙ one e silent.0 silent.1)
      where
        one : (e : Event T) → effect_told (event_of k true w e).1 ≡ None → reply_told (event_of k true w e).1 ≡ None → cond (is_step_of p e) 1 0 + 0 ≡ 0
        one (Begin q c) none unanswered = refl
        one (Step q g) none unanswered = elim (eqb_tells q p) [
          | inl at ↦ absurd (silent-step w st h p g half (subst (λ i. effect_told (event_of k true w (Step i g)).1 ≡ None) at.1 none) (subst (λ i. reply_told (event_of k true w (Step i g)).1 ≡ None) at.1 unanswered))
          | inr other ↦ rw other.0 refl
        ]

  module _ (paces : Paces T k laws) where
    idle-if : (busy : ℕ) (s : MemoryState T) (Q : State T) (g : laws.G) (j : ℕ) (z : Standing) (x : Option (Running T)) (y : Option (Open T)) → laws.Holds s Q g → Party busy s Q g j x y → Agrees z y → z ≢ HalfDone → paces.Free g j
    idle-if busy s Q g j HalfDone x y holds h a ne = absurd (ne refl)
    idle-if busy s Q g j Between None None holds h a ne = paces.rests g j h
    idle-if busy s Q g j Undone (Some r) (Some o) holds h a ne = let same : a.0 ≡ o = (let e = a.1 in cc) in paces.undone busy s Q g j r o holds h (ap (λ z. z.effects) (sym same) ∙ a.2)
    idle-if busy s Q g j Between x (Some o) holds h a ne = cc
    idle-if busy s Q g j Undone x None holds h a ne = let e = a.1 in cc
    idle-if busy s Q g j z x y holds h a ne = absurd h

    quiet : (w : World (MemoryState T) (Running T)) (st : ℕ → Standing) (h : Here w st) (p : ℕ) → ((q : ℕ) → q ≢ p → st q ≢ HalfDone) → (j : ℕ) → j ≢ p → paces.Free h.sim.g j
    quiet w st h p others j ne = idle-if h.b.busy w.shared h.b.queue h.sim.g j (st j) (call_at w j) (h.b.open_call j) h.sim.holds (h.sim.each j) (h.agrees j) (others j ne)

    -- where the call stands as it stood, and the queue is as it was, it is as far from its reply
    as_far : (w w' : World (MemoryState T) (Running T)) (st st' : ℕ → Standing) (h : Here w st) (h' : Here w' st') (p : ℕ) (r : Running T) → paces.Ready w.shared r → call_at w p ≡ Some r → call_at w' p ≡ Some r → st p ≢ Between → st' p ≢ Between
        → ((q : ℕ) → q ≢ p → st q ≢ HalfDone) → ((q : ℕ) → q ≢ p → st' q ≢ HalfDone) → h'.b.queue ≡ h.b.queue → (w'.shared ≡ w.shared) ⊎ Turns laws w.shared w'.shared h.b.queue h.sim.g
        → paces.Ready w'.shared r × (paces.rank w'.shared r ≡ paces.rank w.shared r)
    as_far w w' st st' h h' p r ready is is' mine mine' others others' same turn =
        let o = open-there (st p) (h.b.open_call p) (h.agrees p) mine in
        let o' = open-there (st' p) (h'.b.open_call p) (h'.agrees p) mine' in
        paces.keeps h.b.busy h'.b.busy w.shared w'.shared h.b.queue h.sim.g h'.sim.g p r o.0 o'.0 ready h.sim.holds (subst (λ Q. laws.Holds w'.shared Q h'.sim.g) same h'.sim.holds)
        (fits-at w st h p r o.0 o.1 is) (subst (λ Q. laws.Fits h'.b.busy w'.shared Q h'.sim.g p r o'.0) same (fits-at w' st' h' p r o'.0 o'.1 is'))
        (quiet w st h p others) (quiet w' st' h' p others') turn

    -- an event without effect that leaves the call leaves it as far from its reply
    still : (w : World (MemoryState T) (Running T)) (st : ℕ → Standing) (h : Here w st) (p : ℕ) (r r' : Running T) (e : Event T) (a : After w st e h.b) → paces.Ready w.shared r → call_at w p ≡ Some r → call_at (event_of k true w e).0 p ≡ Some r'
        → st p ≢ Between → stands_then p (st p) e (event_of k true w e).1 ≢ Between
        → ((q : ℕ) → q ≢ p → st q ≢ HalfDone) → ((q : ℕ) → q ≢ p → stands_then q (st q) e (event_of k true w e).1 ≢ HalfDone)
        → effect_told (event_of k true w e).1 ≡ None → call_at (event_of k true w e).0 p ≡ call_at w p → ((g : Bool) → e ≡ Step p g → ⊥)
        → paces.Ready (event_of k true w e).0.shared r' × (paces.rank (event_of k true w e).0.shared r' ≡ paces.rank w.shared r)
    still w st h p r r' e a ready is is' mine mine' others others' none stays not_own =
        let same : r' ≡ r = (let x : Some r' ≡ Some r = sym is' ∙ (stays ∙ is) in cc) in
        subst (λ x. paces.Ready (event_of k true w e).0.shared x × (paces.rank (event_of k true w e).0.shared x ≡ paces.rank w.shared r)) (sym same)
        (as_far w (event_of k true w e).0 st (λ j. stands_then j (st j) e (event_of k true w e).1) h a.here p r ready is (stays ∙ is) mine mine' others others' (queue-same h.b a.here.b e (event_of k true w e).1 a.happens none) (turn w st h p e others none not_own))

    -- its own step brings it nearer
    own-falls : (w : World (MemoryState T) (Running T)) (st : ℕ → Standing) (h : Here w st) (p : ℕ) (r r' : Running T) (g : Bool) → paces.Ready w.shared r → call_at w p ≡ Some r → call_at (event_of k true w (Step p g)).0 p ≡ Some r'
        → st p ≢ Between → ((q : ℕ) → q ≢ p → st q ≢ HalfDone) → paces.Ready (event_of k true w (Step p g)).0.shared r' × (paces.rank (event_of k true w (Step p g)).0.shared r' < paces.rank w.shared r)
    own-falls w st h p r r' g ready is is' mine others =
        let o = open-there (st p) (h.b.open_call p) (h.agrees p) mine in
        let t = step_of k (g && true) w.shared r in
        let after = own-step w p g r is in
        let lt : p < length w.calls = ltb-true p (length w.calls) (engine.within T (MemoryState T) (Running T) laws.G (capacity_of k) (step_of k) (start_of k) (CanStep k) laws.Holds laws.Idle laws.Fits w p r is) in
        let there : t.call ≡ Some r' = sym (get_or-set_same w.calls p t.call None lt) ∙ (sym (ap (λ z. call_at z p) after) ∙ is') in
        let falls = paces.falls h.b.busy (g && true) w.shared h.b.queue h.sim.g p r r' o.0 ready h.sim.holds (fits-at w st h p r o.0 o.1 is) (quiet w st h p others) there in
        subst (λ s. paces.Ready s r' × (paces.rank s r' < paces.rank w.shared r)) (sym (ap (λ z. z.shared) after)) falls

    -- an event brings the call nearer to its reply where it is its own step, and else leaves it as far
    nearer : (w : World (MemoryState T) (Running T)) (st : ℕ → Standing) (h : Here w st) (p : ℕ) (r r' : Running T) (e : Event T) (a : After w st e h.b) → paces.Ready w.shared r → call_at w p ≡ Some r → call_at (event_of k true w e).0 p ≡ Some r'
        → st p ≢ Between → stands_then p (st p) e (event_of k true w e).1 ≢ Between
        → ((q : ℕ) → q ≢ p → st q ≢ HalfDone) → ((q : ℕ) → q ≢ p → stands_then q (st q) e (event_of k true w e).1 ≢ HalfDone)
        → (party_of e ≢ p → effect_told (event_of k true w e).1 ≡ None)
        → paces.Ready (event_of k true w e).0.shared r' × (cond (is_step_of p e) 1 0 + paces.rank (event_of k true w e).0.shared r' ≤ paces.rank w.shared r)
    nearer w st h p r r' (Begin q c) a ready is is' mine mine' others others' none =
        let stays : call_at (event_of k true w (Begin q c)).0 p ≡ call_at w p = elim (eqb_tells q p) [
          | inl t ↦ subst (λ i. call_at (event_of k true w (Begin i c)).0 p ≡ call_at w p) (sym t.1) (begin-stays w p c r is)
          | inr t ↦ other-stays w p (Begin q c) t.1
        ] in
        let same = still w st h p r r' (Begin q c) a ready is is' mine mine' others others' (begin-quiet h.b a.here.b q c (event_of k true w (Begin q c)).1 a.happens) stays (λ g e. cc) in
        let far = same.1 in
        (same.0, omega arith)
    nearer w st h p r r' (Step q g) a ready is is' mine mine' others others' none = elim (eqb_tells q p) [
      | inl t ↦
          let falls = subst (λ i. call_at (event_of k true w (Step i g)).0 p ≡ Some r'
          → paces.Ready (event_of k true w (Step i g)).0.shared r' × (paces.rank (event_of k true w (Step i g)).0.shared r' < paces.rank w.shared r)) (sym t.1) (λ there. own-falls w st h p r r' g ready is there mine others) is' in
          let lt = falls.1 in
          (falls.0, rw t.0 (omega arith))
      | inr t ↦
          let same = still w st h p r r' (Step q g) a ready is is' mine mine' others others' (none t.1) (other-stays w p (Step q g) t.1) (λ b e. t.1 (let z : q ≡ p = ap party_of e in z)) in
          let far = same.1 in
          (same.0, rw t.0 (omega arith))
    ]

    -- so it takes fewer steps than it had before it
    takes-few : (w : World (MemoryState T) (Running T)) (st : ℕ → Standing) (h : Here w st) (p : ℕ) (r : Running T) → paces.Ready w.shared r → call_at w p ≡ Some r → st p ≢ Between → ((q : ℕ) → q ≢ p → st q ≢ HalfDone)
        → (es : List (Event T)) → IsLeftToIt p es (told_of k w es) → count_by (is_step_of p) es < paces.rank w.shared r
    takes-few w st h p r ready is mine others [] left =
        let o = open-there (st p) (h.b.open_call p) (h.agrees p) mine in
        (paces.within h.b.busy w.shared h.b.queue h.sim.g p r o.0 ready h.sim.holds (fits-at w st h p r o.0 o.1 is)).0
    takes-few w st h p r ready is mine others (e ∷ es) left =
        let t = (event_of k true w e).1 in
        let a = next w st e h in
        let st' : ℕ → Standing = λ q. stands_then q (st q) e t in
        let mine' = in_call-next p (st p) e t mine left.0 in
        let others' : (q : ℕ) → q ≢ p → st' q ≢ HalfDone = λ q ne. not_half-next q (st q) e t (others q ne) (λ at. left.1 (λ also. ne (sym at ∙ also))) in
        let o = open-there (st' p) (a.here.b.open_call p) (a.here.agrees p) mine' in
        let f = call-there a.here.b.busy (event_of k true w e).0.shared a.here.b.queue a.here.sim.g p (call_at (event_of k true w e).0 p) (a.here.b.open_call p) o.0 (a.here.sim.each p) o.1 in
        let step = nearer w st h p r f.0 e a ready is f.1 mine mine' others others' left.1 in
        let rest = takes-few (event_of k true w e).0 st' a.here p f.0 step.0 f.1 mine' others' es left.2 in
        omega (arith, rest, step.1, count-cons p e es)

-- whatever the kind of queue
pub unhindered : (T : Type 0) (k : Kind) (laws : Rules T k) (paces : Paces T k laws)
    → ((parties : ℕ) (w : World (MemoryState T) (Running T)) (st : ℕ → Standing) (h : Here T k laws parties w st) (p : ℕ) (r : Running T) → call_at w p ≡ Some r → NobodyShows k w p → paces.Ready w.shared r) → UnhinderedWithin T k paces.most
unhindered T k laws paces readies parties p past stretch nobody mine others left =
    let h = reach T k laws parties (opening_world k parties) (λ q. Between) past (first T k laws parties) in
    let w = world_after k (opening_world k parties) past in
    let st : ℕ → Standing = λ q. stands_by q Between past (told_of k (opening_world k parties) past) in
    let o = open-there T k laws parties (st p) (h.b.open_call p) (h.agrees p) mine in
    let f = call-there T k laws parties h.b.busy w.shared h.b.queue h.sim.g p (call_at w p) (h.b.open_call p) o.0 (h.sim.each p) o.1 in
    let ready = readies parties w st h p f.0 f.1 nobody in
    let few = takes-few T k laws parties paces w st h p f.0 ready f.1 mine others stretch left in
    let low = paces.within h.b.busy w.shared h.b.queue h.sim.g p f.0 o.0 ready h.sim.holds f.2 in
    omega (arith, few, low.1)

-- where each step of a call that has had an effect has another one or ends it
abbrev pub NoSilentStep : (T : Type 0) (k : Kind) → Rules T k → Type 0
NoSilentStep T k laws = (busy : ℕ) (ok : Bool) (s : MemoryState T) (Q : State T) (g : laws.G) (p : ℕ) (r r' : Running T) (o : Open T) → laws.Fits busy s Q g p r o → o.effects ≢ [] → (step_of k ok s r).call ≡ Some r' → (step_of k ok s r).effect ≡ None → ⊥

pub never_waits : (T : Type 0) (k : Kind) (laws : Rules T k) → NoSilentStep T k laws → NeverWaits T k
never_waits T k laws ends parties p past granted half quiet =
    let h = reach T k laws parties (opening_world k parties) (λ q. Between) past (first T k laws parties) in
    let w = world_after k (opening_world k parties) past in
    let told : (event_of k true w (Step p granted)).1 ≡ Ran None None = cc in
    silent-step T k laws parties ends w (λ q. stands_by q Between past (told_of k (opening_world k parties) past)) h p granted half (ap effect_told told) (ap reply_told told)

pub waits_take_none : (T : Type 0) (k : Kind) (laws : Rules T k) → NoSilentStep T k laws → HalfDoneTakesNone T k
waits_take_none T k laws ends parties q past stretch silent half =
    let h = reach T k laws parties (opening_world k parties) (λ q. Between) past (first T k laws parties) in
    takes-none T k laws parties ends (world_after k (opening_world k parties) past) (λ q. stands_by q Between past (told_of k (opening_world k parties) past)) h q stretch half silent
