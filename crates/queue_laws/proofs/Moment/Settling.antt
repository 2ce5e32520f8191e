-- A history settles into one whose displacements are moments.
use Rattle.std.proofs.Common.{◌≡◌, ◌⊎◌, ℕ, ◌+◌, ◌<◌, Bool, true, false, List, [], ◌∷◌, ◌++◌, length, Option, Some, None, refl, ap, sym, ◌∙◌, subst, inl, inr, arith, length-append, append_assoc}
use mathlib.Core.List.{IsPrefix}
use Rattle.queue_laws.specs.{Common.Vocabulary.Effect, Common.Vocabulary.LIMIT, Moment.Moments.RunsAtOnce, Moment.Moments.displacements, Moment.Moments.others, Moment.Moments.settled, Moment.Moments.arrived}
use Rattle.queue_steps.specs.{State.State, State.start, State.fills, State.is_slot_cap, Effect.Fits, Effect.made, Effect.with_coming, Effect.Runs, Effect.after_from}
use Rattle.queue_laws.proofs.Moment.Closed.{many, held, Fit, take_first, arrived_none, arrived_arrive, arrived_take, held_front, held_arrive, held_less, reopened, Agrees, agrees_arrived, Closes, close_settles}

fit_less : (cap : Option ℕ) (n m : ℕ) → n ≡ m + 1 → Fit cap n → Fit cap m
fit_less None n m is fit = tt
fit_less (Some c) n m is fit = omega (arith, fit, is)

fit_more : (cap : Option ℕ) (n m k : ℕ) → m ≡ 0 → k ≡ n + 1 → fills cap n ≡ false → Fit cap (n + m) → Fit cap (k + m)
fit_more None n m k none is free fit = tt
fit_more (Some c) n m k none is free fit = grind arith

pub full_none : (cap : Option ℕ) (n m : ℕ) → fills cap n ≡ true → Fit cap (n + m) → m ≡ 0
full_none None n m full fit = cc
full_none (Some c) n m full fit = grind arith

none_uncapped : (cap : Option ℕ) (n : ℕ) → fills cap n ≡ true → cap ≡ None → ⊥
none_uncapped None n full is = cc
none_uncapped (Some c) n full is = cc

below_front : (single : Bool) (n : ℕ) → single ≡ false → (single ≡ true) ⊎ (n < LIMIT) → n ≡ LIMIT → ⊥
below_front single n other (inl one) is = cc
below_front single n other (inr lt) is = omega (arith, lt, is)

fit_slot : (limit : Option ℕ) (n : ℕ) → limit ≡ Some 1 → n ≡ 1 → Fit limit n
fit_slot limit n one is = rw one (omega (arith, is))

module _ {T : Type 0} where
  pub many_none : (o : Option T) → many o ≡ 0 → o ≡ None
  many_none None is = refl
  many_none (Some v) is = absurd (omega arith)

  -- what holds of every state of a history: nothing is ever on its way into a queue of one slot, or without a capacity, nor into one that has accepted all it may; and there is room for all
  pub record Sound (Q : State T) : Type 0 where
    pub single : is_slot_cap Q.cap ≡ true → Q.coming ≡ None
    pub uncapped : Q.cap ≡ None → Q.coming ≡ None
    pub below : Q.accepted ≡ LIMIT → is_slot_cap Q.cap ≡ false → Q.coming ≡ None
    pub room : Fit Q.cap (held Q)

  pub sound_on : (e : Effect T) (Q : State T) → Fits e Q → Sound Q → Sound (made e Q)
  sound_on (Effect.Append v) Q f s =
      record { single = s.single; uncapped = s.uncapped; below = λ is many. f.1; room = fit_more Q.cap (length Q.items) (many Q.coming) (length (Q.items ++ v ∷ [])) (ap many f.1) (length-append Q.items (v ∷ [])) f.2 s.room }
  sound_on (Effect.Take v) Q f s =
      record { single = s.single; uncapped = s.uncapped; below = s.below; room = fit_less Q.cap (held Q) (held (made (Effect.Take v) Q)) (held_less Q v f.0 f.1) s.room }
  sound_on (Effect.Replace old v) Q f s =
      let none = s.single (ap is_slot_cap f.0) in let zero : many Q.coming ≡ 0 = ap many none in
      record { single = s.single; uncapped = s.uncapped; below = λ is other. none; room = fit_slot Q.cap (1 + many Q.coming) f.0 (omega (arith, zero)) }
  sound_on (Effect.Front old v) Q f s =
      record {
        single = λ yes. absurd (let no = f.0 in cc);
        uncapped = λ is. absurd (none_uncapped Q.cap (length Q.items) f.1 is);
        below = λ is other. absurd (below_front (is_slot_cap Q.cap) Q.accepted other f.3 is);
        room = subst (Fit Q.cap) (sym (held_front Q old v f)) s.room;
      }
  sound_on Effect.Arrive Q f s = record { single = λ yes. refl; uncapped = λ is. refl; below = λ is no. refl; room = subst (Fit Q.cap) (sym (held_arrive Q)) s.room }
  sound_on e Q f s = record { single = s.single; uncapped = s.uncapped; below = s.below; room = s.room }

  pub sound_after : (Q : State T) (es next : List (Effect T)) → Runs Q (es ++ next) → Sound Q → Sound (after_from Q es)
  sound_after Q [] next r s = s
  sound_after Q (e ∷ es) next r s = sound_after (made e Q) es next r.1 (sound_on e Q r.0 s)

  -- from the state S on these effects settle into a history of moments, and its state agrees with theirs
  abbrev pub Settles : List (Effect T) → List (Effect T) → State T → State T → Type 0
  Settles es next R S = RunsAtOnce S (settled es next) × Agrees next R (after_from S (settled es next))

  -- a queue that has closed itself
  spent_settles : (Q : State T) (es next : List (Effect T)) → Q.closed ≡ true → Q.coming ≡ None → is_slot_cap Q.cap ≡ false → Q.accepted ≡ LIMIT → Runs Q (es ++ next) → Settles es next (after_from Q es) Q
  spent_settles Q [] next shut none other spent r = (tt, subst (Agrees next Q) (arrived_none Q none) (agrees_arrived next Q))
  spent_settles Q (Effect.Take v ∷ es) next shut none other spent r = let more = spent_settles (made (Effect.Take v) Q) es next shut none other spent r.1 in ((r.0, more.0), more.1)
  spent_settles Q (Effect.Replace old v ∷ es) next shut none other spent r = absurd (let no = r.0.1 in cc)
  spent_settles Q (Effect.Front old v ∷ es) next shut none other spent r = absurd (below_front (is_slot_cap Q.cap) Q.accepted other r.0.3 spent)
  spent_settles Q (Effect.Arrive ∷ es) next shut none other spent r = absurd (let some = r.0.1 in cc)
  spent_settles Q (Effect.Close ∷ es) next shut none other spent r = absurd (let no = r.0 in cc)
  spent_settles Q (x ∷ es) next shut none other spent r = absurd (let no = r.0.0 in cc)

  pub open_settles : (Q : State T) (es next : List (Effect T)) → Q.closed ≡ false → Sound Q → Runs Q (es ++ next) → Settles es next (after_from Q es) (arrived Q)
  open_settles Q [] next free s r = (tt, agrees_arrived next Q)
  open_settles Q (Effect.Append v ∷ es) next free s r =
      let R : State T = made (Effect.Append v) Q in let none : Q.coming ≡ None = r.0.1 in
      let more = open_settles R es next free (sound_on (Effect.Append v) Q r.0 s) r.1 in
      let there : Settles es next (after_from R es) R = subst (Settles es next (after_from R es)) (arrived_none R none) more in
      subst (Settles (Effect.Append v ∷ es) next (after_from R es)) (sym (arrived_none Q none)) ((r.0, there.0), there.1)
  open_settles Q (Effect.Take v ∷ es) next free s r =
      let R : State T = made (Effect.Take v) Q in let ys = r.0.0 in let is = r.0.1 in
      let more = open_settles R es next free (sound_on (Effect.Take v) Q r.0 s) r.1 in
      let there : Settles es next (after_from R es) (made (Effect.Take v) (arrived Q)) = subst (Settles es next (after_from R es)) (sym (arrived_take Q v ys is)) more in
      (((with_coming ys Q.coming, take_first Q.items ys v Q.coming is), there.0), there.1)
  open_settles Q (Effect.Replace old v ∷ es) next free s r =
      let R : State T = made (Effect.Replace old v) Q in let none : Q.coming ≡ None = s.single (ap is_slot_cap r.0.0) in
      let more = open_settles R es next free (sound_on (Effect.Replace old v) Q r.0 s) r.1 in
      let there : Settles es next (after_from R es) R = subst (Settles es next (after_from R es)) (arrived_none R none) more in
      subst (Settles (Effect.Replace old v ∷ es) next (after_from R es)) (sym (arrived_none Q none)) ((r.0, there.0), there.1)
  open_settles Q (Effect.Front old v ∷ es) next free s r =
      let R : State T = made (Effect.Front old v) Q in let none : Q.coming ≡ None = r.0.2 in
      let more = open_settles R es next free (sound_on (Effect.Front old v) Q r.0 s) r.1 in
      subst (Settles (Effect.Front old v ∷ es) next (after_from R es)) (sym (arrived_none Q none)) ((free, r.0, more.0), more.1)
  open_settles Q (Effect.Arrive ∷ es) next free s r =
      let R : State T = made Effect.Arrive Q in
      let more = open_settles R es next free (sound_on Effect.Arrive Q r.0 s) r.1 in
      subst (Settles es next (after_from R es)) (arrived_none R refl ∙ arrived_arrive Q r.0.0 r.0.1) more
  open_settles Q (Effect.Close ∷ es) next free s r =
      let R : State T = made Effect.Close Q in
      let more = close_settles R es next refl s.room r.1 in
      let back : reopened (arrived R) ≡ arrived Q = ap {B = State T} (λ (b : Bool). record (arrived Q) { closed = b }) (sym free) in
      subst (Closes es next (after_from R es)) back more
  open_settles Q (Effect.SelfClose ∷ es) next free s r =
      let R : State T = made Effect.SelfClose Q in let none : Q.coming ≡ None = s.below r.0.2 r.0.1 in
      let more = spent_settles R es next refl none r.0.1 r.0.2 r.1 in
      subst (Settles (Effect.SelfClose ∷ es) next (after_from R es)) (sym (arrived_none Q none)) ((r.0, more.0), more.1)

  pub sound_start : (cap : Option ℕ) → Sound (start {T = T} cap 0)
  sound_start None = record { single = λ is. refl; uncapped = λ is. refl; below = λ is no. refl; room = tt }
  sound_start (Some c) = record { single = λ is. refl; uncapped = λ is. refl; below = λ is no. refl; room = omega arith }

  others_append : (es more : List (Effect T)) → others (es ++ more) ≡ others es ++ others more
  others_append [] more = refl
  others_append (Effect.Append v ∷ es) more = ap (λ (l : List (Effect T)). Effect.Append v ∷ l) (others_append es more)
  others_append (Effect.Take v ∷ es) more = ap (λ (l : List (Effect T)). Effect.Take v ∷ l) (others_append es more)
  others_append (Effect.Replace old v ∷ es) more = ap (λ (l : List (Effect T)). Effect.Replace old v ∷ l) (others_append es more)
  others_append (Effect.Close ∷ es) more = ap (λ (l : List (Effect T)). Effect.Close ∷ l) (others_append es more)
  others_append (Effect.SelfClose ∷ es) more = ap (λ (l : List (Effect T)). Effect.SelfClose ∷ l) (others_append es more)
  others_append (x ∷ es) more = others_append es more

  -- what is settled stays settled
  abbrev GoesOn : List (Effect T) → List (Effect T) → List (Effect T) → Type 0
  GoesOn es more next = IsPrefix (settled es (more ++ next)) (settled (es ++ more) next)

  behind : (e : Effect T) (s t : List (Effect T)) → IsPrefix s t → IsPrefix (e ∷ s) (e ∷ t)
  behind e s t (d, is) = (d, ap (λ (l : List (Effect T)). e ∷ l) is)

  pub goes_on : (es more next : List (Effect T)) → GoesOn es more next
  goes_on [] more next = (settled more next, refl)
  goes_on (Effect.Front old v ∷ es) more next = behind (Effect.Front old v) (Effect.Arrive ∷ settled es (more ++ next)) (Effect.Arrive ∷ settled (es ++ more) next) (behind Effect.Arrive (settled es (more ++ next)) (settled (es ++ more) next) (goes_on es more next))
  goes_on (Effect.Arrive ∷ es) more next = goes_on es more next
  goes_on (Effect.Close ∷ es) more next =
      let D : List (Effect T) = displacements (es ++ (more ++ next)) in
      let same : D ≡ displacements ((es ++ more) ++ next) = ap displacements (sym (append_assoc es more next)) in
      (others more, append_assoc D (Effect.Close ∷ others es) (others more) ∙ ((λ i. same i ++ Effect.Close ∷ sym (others_append es more) i)))
  goes_on (x ∷ es) more next = behind x _ _ (goes_on es more next)
