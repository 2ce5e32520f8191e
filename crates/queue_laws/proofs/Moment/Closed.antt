-- What is displaced after a close might be displaced just before it.
use Rattle.std.proofs.Common.{◌≡◌, ◌⊎◌, ℕ, ◌+◌, ◌<◌, ◌≤◌, Bool, true, false, List, [], ◌∷◌, ◌++◌, length, Option, Some, None, refl, ap, sym, ◌∙◌, subst, inl, inr, arith, length-append}
use Rattle.queue_laws.specs.{Common.Vocabulary.Effect, Moment.Moments.RunsAtOnce, Moment.Moments.displacements, Moment.Moments.others, Moment.Moments.with_one, Moment.Moments.arrived}
use Rattle.queue_steps.specs.{State.State, State.fills, Effect.Fits, Effect.made, Effect.rest, Effect.with_coming, Effect.Runs, Effect.after_from}

abbrev pub many : {T : Type 0} → Option T → ℕ
many None = 0
many (Some v) = 1

-- so many items are in the list or on their way in
abbrev pub held : {T : Type 0} → State T → ℕ
held Q = length Q.items + many Q.coming

abbrev pub Fit : Option ℕ → ℕ → Type 0
Fit None n = Unit {0}
Fit (Some c) n = n ≤ c

abbrev pub Lacks : Option ℕ → ℕ → Type 0
Lacks None n = Unit {0}
Lacks (Some c) n = n < c

lacks_full : (cap : Option ℕ) (n m : ℕ) → fills cap n ≡ true → Lacks cap (n + m) → ⊥
lacks_full None n m full lt = cc
lacks_full (Some c) n m full lt = grind arith

lacks_one : (cap : Option ℕ) (n m : ℕ) → Fit cap n → n ≡ m + 1 → Lacks cap m
lacks_one None n m fit is = tt
lacks_one (Some c) n m fit is = omega (arith, fit, is)

lacks_less : (cap : Option ℕ) (n m : ℕ) → Lacks cap n → n ≡ m + 1 → Lacks cap m
lacks_less None n m fit is = tt
lacks_less (Some c) n m fit is = omega (arith, fit, is)

module _ {T : Type 0} where
  rest_counts : (xs ys : List T) (v : T) → xs ≡ v ∷ ys → length xs ≡ length (rest xs) + 1
  rest_counts xs ys v is = rw is (omega arith)

  pub coming_counts : (xs : List T) (o : Option T) → length (with_coming xs o) ≡ length xs + many o
  coming_counts xs None = omega arith
  coming_counts xs (Some v) = length-append xs (v ∷ [])

  -- what is taken from the list is taken from the settled list
  pub take_first : (xs ys : List T) (v : T) (o : Option T) → xs ≡ v ∷ ys → with_coming xs o ≡ v ∷ with_coming ys o
  take_first xs ys v None is = is
  take_first xs ys v (Some w) is = ap (λ (l : List T). l ++ w ∷ []) is

  pub take_rest : (xs ys : List T) (v : T) (o : Option T) → xs ≡ v ∷ ys → rest (with_coming xs o) ≡ with_coming (rest xs) o
  take_rest xs ys v o is = ap rest (take_first xs ys v o is) ∙ ap (λ (l : List T). with_coming (rest l) o) (sym is)

  -- where nothing is on its way in, that is the state itself
  pub arrived_none : (Q : State T) → Q.coming ≡ None → arrived Q ≡ Q
  arrived_none Q is =
      let here : arrived Q ≡ record Q { coming = None } = ap {B = State T} (λ (o : Option T). record Q { items = with_coming Q.items o; coming = None; accepted = with_one o Q.accepted }) is in
      here ∙ ap {B = State T} (λ (o : Option T). record Q { coming = o }) (sym is)

  pub arrived_arrive : (Q : State T) (v : T) → Q.coming ≡ Some v → made Effect.Arrive Q ≡ arrived Q
  arrived_arrive Q v is = ap {B = State T} (λ (o : Option T). record Q { items = with_coming Q.items Q.coming; coming = None; accepted = with_one o Q.accepted }) (sym is)

  pub arrived_take : (Q : State T) (v : T) (ys : List T) → Q.items ≡ v ∷ ys → made (Effect.Take v) (arrived Q) ≡ arrived (made (Effect.Take v) Q)
  arrived_take Q v ys is = ap {B = State T} (λ (l : List T). record Q { items = l; coming = None; accepted = with_one Q.coming Q.accepted }) (take_rest Q.items ys v Q.coming is)

  -- the same queue, open
  abbrev pub reopened : State T → State T
  reopened Q = record Q { closed = false }

  pub reshut : (Q : State T) → Q.closed ≡ true → made Effect.Close (reopened Q) ≡ Q
  reshut Q h = ap {B = State T} (λ (b : Bool). record Q { closed = b }) (sym h)

  -- The settled state S for the state Q, after which the effects next are to come
  pub record Agrees (next : List (Effect T)) (Q S : State T) : Type 0 where
    pub cap : S.cap ≡ Q.cap
    pub closed : S.closed ≡ Q.closed
    pub coming : S.coming ≡ None
    pub count : length S.items ≡ held Q
    pub same : (displacements next ≡ []) ⊎ (Q.closed ≡ false) → S ≡ arrived Q

  pub agrees_arrived : (next : List (Effect T)) (Q : State T) → Agrees next Q (arrived Q)
  agrees_arrived next Q = record { cap = refl; closed = refl; coming = refl; count = coming_counts Q.items Q.coming; same = λ any. refl }

  -- a closed queue that has lost an item is never full again, so nothing is displaced
  none_displaced : (Q : State T) (es : List (Effect T)) → Q.closed ≡ true → Lacks Q.cap (held Q) → Runs Q es → displacements es ≡ []
  none_displaced Q [] shut lacks r = refl
  none_displaced Q (Effect.Take v ∷ es) shut lacks r =
      let one = rest_counts Q.items r.0.0 v r.0.1 in
      none_displaced (made (Effect.Take v) Q) es shut (lacks_less Q.cap (held Q) (length (rest Q.items) + many Q.coming) lacks (omega (arith, one))) r.1
  none_displaced Q (Effect.Replace old v ∷ es) shut lacks r = absurd (let no = r.0.1 in cc)
  none_displaced Q (Effect.Front old v ∷ es) shut lacks r = absurd (lacks_full Q.cap (length Q.items) (many Q.coming) r.0.1 lacks)
  none_displaced Q (Effect.Arrive ∷ es) shut lacks r =
      let same : held Q ≡ held (made Effect.Arrive Q) = sym (coming_counts Q.items Q.coming) ∙ omega arith in
      none_displaced (made Effect.Arrive Q) es shut (subst (Lacks Q.cap) same lacks) r.1
  none_displaced Q (Effect.Close ∷ es) shut lacks r = absurd (let no = r.0 in cc)
  none_displaced Q (x ∷ es) shut lacks r = absurd (let no = r.0.0 in cc)

  pub held_less : (Q : State T) (v : T) (ys : List T) → Q.items ≡ v ∷ ys → held Q ≡ held (made (Effect.Take v) Q) + 1
  held_less Q v ys is = let one = rest_counts Q.items ys v is in omega (arith, one)

  pub held_front : (Q : State T) (old v : T) → Fits (Effect.Front old v) Q → held (made (Effect.Front old v) Q) ≡ held Q
  held_front Q old v f =
      let one = rest_counts Q.items f.4.0 old f.4.1 in let none : many Q.coming ≡ 0 = ap many f.2 in omega (arith, one, none)

  pub held_arrive : (Q : State T) → held (made Effect.Arrive Q) ≡ held Q
  held_arrive Q = let all = coming_counts Q.items Q.coming in omega (arith, all)

  -- what is settled before the arrive of the state Q, whose front has come already
  pub agrees_arrive : (next : List (Effect T)) (Q S : State T) (v : T) → Q.coming ≡ Some v → Agrees next (made Effect.Arrive Q) S → Agrees (Effect.Arrive ∷ next) Q S
  agrees_arrive next Q S v is a =
      record { cap = a.cap; closed = a.closed; coming = a.coming; count = a.count ∙ held_arrive Q; same = λ any. a.same any ∙ (arrived_none (made Effect.Arrive Q) refl ∙ arrived_arrive Q v is) }

  -- behind a close, once an item is lost, only items are taken
  takes_run : (Q : State T) (es next : List (Effect T)) → Q.closed ≡ true → Lacks Q.cap (held Q) → Runs Q (es ++ next)
      → RunsAtOnce (arrived Q) (others es) × (after_from (arrived Q) (others es) ≡ arrived (after_from Q es))
  takes_run Q [] next shut lacks r = (tt, refl)
  takes_run Q (Effect.Take v ∷ es) next shut lacks r =
      let ys = r.0.0 in let is = r.0.1 in let R : State T = made (Effect.Take v) Q in
      let more = takes_run R es next shut (lacks_less Q.cap (held Q) (held R) lacks (held_less Q v ys is)) r.1 in
      let P : State T → Type 0 = λ S. RunsAtOnce S (others es) × (after_from S (others es) ≡ arrived (after_from R es)) in
      let there : P (made (Effect.Take v) (arrived Q)) = subst P (sym (arrived_take Q v ys is)) more in
      (((with_coming ys Q.coming, take_first Q.items ys v Q.coming is), there.0), there.1)
  takes_run Q (Effect.Replace old v ∷ es) next shut lacks r = absurd (let no = r.0.1 in cc)
  takes_run Q (Effect.Front old v ∷ es) next shut lacks r = absurd (lacks_full Q.cap (length Q.items) (many Q.coming) r.0.1 lacks)
  takes_run Q (Effect.Arrive ∷ es) next shut lacks r =
      let R : State T = made Effect.Arrive Q in
      let more = takes_run R es next shut (subst (Lacks Q.cap) (sym (held_arrive Q)) lacks) r.1 in
      let P : State T → Type 0 = λ S. RunsAtOnce S (others es) × (after_from S (others es) ≡ arrived (after_from R es)) in
      subst P (arrived_none R refl ∙ arrived_arrive Q r.0.0 r.0.1) more
  takes_run Q (Effect.Close ∷ es) next shut lacks r = absurd (let no = r.0 in cc)
  takes_run Q (x ∷ es) next shut lacks r = absurd (let no = r.0.0 in cc)

  -- behind a close that stood at this state reopened: the displacements that are to come, and then the close
  abbrev EndsClosed : List (Effect T) → State T → State T → Type 0
  EndsClosed b Q P = RunsAtOnce P (displacements b ++ Effect.Close ∷ []) × Agrees b Q (after_from P (displacements b ++ Effect.Close ∷ []))

  ends_close : (b : List (Effect T)) (Q : State T) → Q.closed ≡ true → displacements b ≡ [] → EndsClosed b Q (reopened (arrived Q))
  ends_close b Q shut none =
      let S : State T = made Effect.Close (reopened (arrived Q)) in
      let is : S ≡ arrived Q = reshut (arrived Q) shut in
      let here : Agrees b Q S = subst (Agrees b Q) (sym is) (agrees_arrived b Q) in
      let P : List (Effect T) → Type 0 = λ l. RunsAtOnce (reopened (arrived Q)) (l ++ Effect.Close ∷ []) × Agrees b Q (after_from (reopened (arrived Q)) (l ++ Effect.Close ∷ [])) in
      subst P (sym none) ((refl, tt), here)

  displaced_ends : (Q : State T) (b : List (Effect T)) → Q.closed ≡ true → Fit Q.cap (held Q) → Runs Q b → EndsClosed b Q (reopened (arrived Q))
  displaced_ends Q [] shut fit r = ends_close [] Q shut refl
  displaced_ends Q (Effect.Take v ∷ b) shut fit r =
      let R : State T = made (Effect.Take v) Q in
      ends_close (Effect.Take v ∷ b) Q shut (none_displaced R b shut (lacks_one Q.cap (held Q) (held R) fit (held_less Q v r.0.0 r.0.1)) r.1)
  displaced_ends Q (Effect.Replace old v ∷ b) shut fit r = absurd (let no = r.0.1 in cc)
  displaced_ends Q (Effect.Front old v ∷ b) shut fit r =
      let R : State T = made (Effect.Front old v) Q in
      let more = displaced_ends R b shut (subst (Fit Q.cap) (sym (held_front Q old v r.0)) fit) r.1 in
      let a = more.1 in let f = r.0 in
      let P : State T = reopened (arrived Q) in
      let back : reopened Q ≡ P = ap reopened (sym (arrived_none Q f.2)) in
      let runs : RunsAtOnce (reopened Q) (Effect.Front old v ∷ Effect.Arrive ∷ (displacements b ++ Effect.Close ∷ [])) = (refl, f, more.0) in
      let agrees : Agrees (Effect.Front old v ∷ b) Q (after_from (reopened Q) (Effect.Front old v ∷ Effect.Arrive ∷ (displacements b ++ Effect.Close ∷ []))) =
      record { cap = a.cap; closed = a.closed; coming = a.coming; count = a.count ∙ held_front Q old v f; same = λ any. absurd (elim any [ inl e ↦ let no : Effect.Front old v ∷ Effect.Arrive ∷ displacements b ≡ [] = e in cc | inr e ↦ cc ]) } in
      subst (EndsClosed (Effect.Front old v ∷ b) Q) back (runs, agrees)
  displaced_ends Q (Effect.Arrive ∷ b) shut fit r =
      let R : State T = made Effect.Arrive Q in
      let more = displaced_ends R b shut (subst (Fit Q.cap) (sym (held_arrive Q)) fit) r.1 in
      let is : arrived R ≡ arrived Q = arrived_none R refl ∙ arrived_arrive Q r.0.0 r.0.1 in
      let there : EndsClosed b R (reopened (arrived Q)) = subst (λ (S : State T). EndsClosed b R (reopened S)) is more in
      (there.0, agrees_arrive b Q _ r.0.0 r.0.1 there.1)
  displaced_ends Q (Effect.Close ∷ b) shut fit r = absurd (let no = r.0 in cc)
  displaced_ends Q (x ∷ b) shut fit r = absurd (let no = r.0.0 in cc)

  -- behind a close: the displacements of all that comes, the close, and what else stands in es
  abbrev pub Closes : List (Effect T) → List (Effect T) → State T → State T → Type 0
  Closes es next R P =
      RunsAtOnce P (displacements (es ++ next) ++ Effect.Close ∷ others es) × Agrees next R (after_from P (displacements (es ++ next) ++ Effect.Close ∷ others es))

  pub close_settles : (Q : State T) (es next : List (Effect T)) → Q.closed ≡ true → Fit Q.cap (held Q) → Runs Q (es ++ next) → Closes es next (after_from Q es) (reopened (arrived Q))
  close_settles Q [] next shut fit r = displaced_ends Q next shut fit r
  close_settles Q (Effect.Take v ∷ es) next shut fit r =
      let R : State T = made (Effect.Take v) Q in let P : State T = reopened (arrived Q) in
      let lacks = lacks_one Q.cap (held Q) (held R) fit (held_less Q v r.0.0 r.0.1) in
      let none : displacements (es ++ next) ≡ [] = none_displaced R (es ++ next) shut lacks r.1 in
      let runs = takes_run R es next shut lacks r.1 in
      let F : State T → Type 0 = λ S. RunsAtOnce S (others es) × Agrees next (after_from R es) (after_from S (others es)) in
      let here : F (arrived R) = (runs.0, subst (Agrees next (after_from R es)) (sym runs.1) (agrees_arrived next (after_from R es))) in
      let there : F (made (Effect.Take v) (arrived Q)) = subst F (sym (arrived_take Q v r.0.0 r.0.1)) here in
      let G : State T → Type 0 = λ S. RunsAtOnce S (Effect.Take v ∷ others es) × Agrees next (after_from R es) (after_from S (Effect.Take v ∷ others es)) in
      let taken : G (arrived Q) = (((with_coming r.0.0 Q.coming, take_first Q.items r.0.0 v Q.coming r.0.1), there.0), there.1) in
      let closing : G (made Effect.Close P) = subst G (sym (reshut (arrived Q) shut)) taken in
      let H : List (Effect T) → Type 0 = λ l. RunsAtOnce P (l ++ Effect.Close ∷ Effect.Take v ∷ others es) × Agrees next (after_from R es) (after_from P (l ++ Effect.Close ∷ Effect.Take v ∷ others es)) in
      subst H (sym none) ((refl, closing.0), closing.1)
  close_settles Q (Effect.Replace old v ∷ es) next shut fit r = absurd (let no = r.0.1 in cc)
  close_settles Q (Effect.Front old v ∷ es) next shut fit r =
      let R : State T = made (Effect.Front old v) Q in let f = r.0 in
      let more = close_settles R es next shut (subst (Fit Q.cap) (sym (held_front Q old v f)) fit) r.1 in
      let back : reopened Q ≡ reopened (arrived Q) = ap reopened (sym (arrived_none Q f.2)) in
      subst (Closes (Effect.Front old v ∷ es) next (after_from R es)) back ((refl, f, more.0), more.1)
  close_settles Q (Effect.Arrive ∷ es) next shut fit r =
      let R : State T = made Effect.Arrive Q in
      let more = close_settles R es next shut (subst (Fit Q.cap) (sym (held_arrive Q)) fit) r.1 in
      let is : arrived R ≡ arrived Q = arrived_none R refl ∙ arrived_arrive Q r.0.0 r.0.1 in
      subst (λ (S : State T). Closes es next (after_from R es) (reopened S)) is more
  close_settles Q (Effect.Close ∷ es) next shut fit r = absurd (let no = r.0 in cc)
  close_settles Q (x ∷ es) next shut fit r = absurd (let no = r.0.0 in cc)
