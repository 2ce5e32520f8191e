-- A party in a call that has had an effect of some kind, from that step on. Nothing here knows a kind of queue.
use Rattle.std.proofs.Common.{◌≡◌, ◌∙◌, ℕ, ◌+◌, ◌<◌, ◌≤◌, ◌&&◌, Bool, true, false, cond, Option, Some, None, List, [], ◌∷◌, ◌++◌, length, get_or-set_same, refl, sym, ap, subst, arith, inl, inr}
use Rattle.std.proofs.lemmas.Bool.{ltb-true, Decides.eqb_tells}
use Rattle.queue_steps.specs.State.{State}
use Rattle.machine_replay.specs.Vocabulary.{Effect, Kind, Local, Event, Told, EffectKind, Begin, Step, Ran, Running}
use Rattle.machine_replay.specs.Book.{Book, Open, Happens, Moves, kind_of, at_open, watched, after_own}
use Rattle.machine_replay.specs.{Conforms.capacity_of, Conforms.party_of, Progress.reply_told, Within.is_step_of}
use Rattle.machine_steps.specs.{Machine.event_of, Steps.CanStep, Steps.step_of, Steps.start_of, World.World, World.call_at}
use Rattle.machine_memory.specs.SharedMemory.{MemoryState}
use Rattle.machine_replay.proofs.Engine.Events as engine
use Rattle.machine_replay.proofs.Engine.KindLaws.{Rules}
use Rattle.machine_replay.proofs.Progress.{Alone.put-same, PartyGoes.PartyGoes, PartyGoes.skips, PartyGoes.beside, PartyGoes.begins, PartyGoes.replies, PartyGoes.goes_on, PartyGoes.ends, PartyGoes.party_goes, Stretch.other-stays, Stretch.begin-stays, Stretch.own-step}

-- one of the effects is of such a kind
abbrev pub ThisOr : Bool → Type 0 → Type 0
ThisOr true X = Unit {0}
ThisOr false X = X

abbrev pub Had : {T : Type 0} → (EffectKind → Bool) → List (Effect T) → Type 0
Had such [] = ⊥
Had such (e ∷ es) = ThisOr (such (kind_of e)) (Had such es)

more : {T : Type 0} (such : EffectKind → Bool) (es : List (Effect T)) (e : Effect T) → Had such es → Had such (es ++ e ∷ [])
more such [] e a = absurd a
more such (x ∷ es) e a = elim (such (kind_of x)) as (λ b. ThisOr b (Had such es) → ThisOr b (Had such (es ++ e ∷ []))) [ true ↦ λ a. tt | false ↦ λ a. more such es e a ] a

now : {T : Type 0} (such : EffectKind → Bool) (es : List (Effect T)) (e : Effect T) → such (kind_of e) ≡ true → Had such (es ++ e ∷ [])
now such [] e is = subst (λ b. ThisOr b ⊥) (sym is) tt
now such (x ∷ es) e is = elim (such (kind_of x)) as (λ b. ThisOr b (Had such (es ++ e ∷ []))) [ true ↦ tt | false ↦ now such es e is ]

pub less : {T : Type 0} (such : EffectKind → Bool) (es : List (Effect T)) (e : Effect T) → such (kind_of e) ≡ false → Had such (es ++ e ∷ []) → Had such es
less such [] e not a = subst (λ b. ThisOr b ⊥) not a
less such (x ∷ es) e not a = elim (such (kind_of x)) as (λ b. ThisOr b (Had such (es ++ e ∷ [])) → ThisOr b (Had such es)) [ true ↦ λ a. tt | false ↦ λ a. less such es e not a ] a

-- the party is in a call that has had one
abbrev pub In : {T : Type 0} → (EffectKind → Bool) → Option (Open T) → Type 0
In {T} such y = (o : Open T) × (y ≡ Some o) × Had such o.effects

in-on : {T : Type 0} (such : EffectKind → Bool) (f : Open T → Open T) → ((o : Open T) → (f o).effects ≡ o.effects) → (y : Option (Open T)) → In such y → In such (at_open f y)
in-on such f same y a = (f a.0, ap (at_open f) a.1, subst (λ es. Had such es) (sym (same a.0)) a.2)

moved : {T : Type 0} (such : EffectKind → Bool) (Q R : State T) (o : Open T) (k : Option EffectKind) (es : List (Effect T)) → Moves Q o k R es → Had such o.effects → Had such es
moved such Q R o None es m a = subst (λ es. Had such es) (sym m.1) a
moved such Q R o (Some k) es m a = subst (λ es. Had such es) (sym m.5) (more such o.effects m.0 a)

same-open : {T : Type 0} (y : Option (Open T)) (o u : Open T) → y ≡ Some o → y ≡ Some u → o ≡ u
same-open y o u e f = let g : Some o ≡ Some u = sym e ∙ f in cc

-- it is so after any event that is not its reply
pub in-next : {T : Type 0} (such : EffectKind → Bool) (cap : Option ℕ) (parties : ℕ) (b c : Book T) (e : Event T) (t : Told T) (q : ℕ) → Happens cap parties b e t c → (party_of e ≡ q → reply_told t ≡ None) → In such (b.open_call q) → In such (c.open_call q)
in-next {T} such cap parties b c e t q h = go (party_goes cap parties b c e t q h)
  where
    go : {t : Told T} {y z : Option (Open T)} → PartyGoes q e t y z → (party_of e ≡ q → reply_told t ≡ None) → In such y → In such z
    go (skips y) none a = a
    go (beside t f y ne same) none a = in-on such f same y a
    go (begins k own_event) none a = let there = a.1 in cc
    go (replies r own_event) none a = let there = a.1 in cc
    go (goes_on o mine k Q R own_event m) none a = (mine, refl, moved such Q R o k mine.effects m (subst (λ z. Had such z.effects) (same-open (Some o) a.0 o a.1 refl) a.2))
    go (ends o k r own_event) none a = let told = none own_event in cc

-- where it has one
pub in-here : {T : Type 0} (such : EffectKind → Bool) (cap : Option ℕ) (parties : ℕ) (b c : Book T) (p : ℕ) (granted : Bool) (x : EffectKind) → such x ≡ true → (t : Told T) → t ≡ Ran (Some x) None → Happens cap parties b (Step p granted) t c → In such (c.open_call p)
in-here such cap parties b c p granted x is (Ran (Some k) None) told h =
    let s = h.1 in
    let mine = after_own b.busy s.o c.queue s.effects in
    let what : k ≡ x = cc in
    (mine, ap (λ z. z p) s.calls ∙ put-same (λ j. at_open (watched c.queue) (b.open_call j)) p (Some mine), subst (λ es. Had such es) (sym s.moves.5) (now such s.o.effects s.moves.0 (ap such (s.moves.1 ∙ what) ∙ is)))
in-here such cap parties b c p granted x is t told h = cc

-- an event brings a call nearer to its reply where it is its own step, and else leaves it as far
module _ (T : Type 0) (k : Kind) (laws : Rules T k) (parties : ℕ) (before : Local ℕ → ℕ) where
  pub nearer : (w : World (MemoryState T) (Running T)) (p : ℕ) (r r' : Running T) (e : Event T) → call_at w p ≡ Some r → call_at (event_of k true w e).0 p ≡ Some r'
      → ((ok : Bool) → (step_of k ok w.shared r).call ≡ Some r' → before r'.local < before r.local) → cond (is_step_of p e) 1 0 + before r'.local ≤ before r.local
  nearer w p r r' (Begin q c) is is' falls =
      let stays : call_at (event_of k true w (Begin q c)).0 p ≡ call_at w p = elim (eqb_tells q p) [
        | inl t ↦ subst (λ i. call_at (event_of k true w (Begin i c)).0 p ≡ call_at w p) (sym t.1) (begin-stays T k laws parties w p c r is)
        | inr t ↦ other-stays T k laws parties w p (Begin q c) t.1
      ] in
      let same : r' ≡ r = (let x : Some r' ≡ Some r = sym is' ∙ (stays ∙ is) in cc) in
      let eq : before r'.local ≡ before r.local = ap (λ x. before x.local) same in
      omega arith
  nearer w p r r' (Step q g) is is' falls = elim (eqb_tells q p) [
    | inl t ↦
        let there' : call_at (event_of k true w (Step p g)).0 p ≡ Some r' = subst (λ i. call_at (event_of k true w (Step i g)).0 p ≡ Some r') t.1 is' in
        let lt : p < length w.calls = ltb-true p (length w.calls) (engine.within T (MemoryState T) (Running T) laws.G (capacity_of k) (step_of k) (start_of k) (CanStep k) laws.Holds laws.Idle laws.Fits w p r is) in
        let made = step_of k (g && true) w.shared r in
        let there : made.call ≡ Some r' = sym (get_or-set_same w.calls p made.call None lt) ∙ (sym (ap (λ z. call_at z p) (own-step T k laws parties w p g r is)) ∙ there') in
        let less = falls (g && true) there in
        rw t.0 (omega arith)
    | inr t ↦
        let same : r' ≡ r = (let x : Some r' ≡ Some r = sym is' ∙ (other-stays T k laws parties w p (Step q g) t.1 ∙ is) in cc) in
        let eq : before r'.local ≡ before r.local = ap (λ x. before x.local) same in
        rw t.0 (omega arith)
  ]
