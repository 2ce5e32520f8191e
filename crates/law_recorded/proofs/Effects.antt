-- What an order of the calls had before an effect: how far the call was that has it, and the move that the effect is.
use Rattle.std.proofs.Common.{◌≡◌, ◌≢◌, ◌∙◌, ◌⊎◌, inl, inr, ℕ, ◌<◌, Bool, true, Option, Some, None, List, [], ◌∷◌, ◌++◌, refl, sym, ap, subst, append-nil, eq-eqb, if◌then◌else◌}
use Rattle.std.proofs.lemmas.Bool.{cases_eq, ne_eqb}
use Rattle.std.specs.Prelude.{slice_get, slice_set}
use Rattle.queue_steps.specs.State.{State}
use Rattle.queue_steps.specs.Effect.{Fits, made}
use Rattle.queue_steps.specs.Replies.{Tells}
use Rattle.queue_laws.proofs.Common.TellsAs.{TellsAs, nothing, append, take, replace, displace, close, self_close, tells_as}
use Rattle.machine_replay.specs.Vocabulary.{Call, Reply, Effect}
use Rattle.machine_replay.specs.Book.{Open, MayMake, IsBegun, kind_of, put}
use Rattle.history_check.specs.declared.recorded.Event.{Event}
use Rattle.history_check.specs.declared.recorded.Move.{Move}
use Rattle.history_check.specs.declared.recorded.Move.TheVariants as move
use Rattle.history_check.specs.declared.recorded.Way.{Way}
use Rattle.history_check.specs.declared.recorded.Way.TheVariants.{Waiting, Halfway, Answered}
use Rattle.history_check.specs.Legal.{Goes}
use Rattle.history_check.proofs.Moves.{set_here}
use Rattle.law_recorded.proofs.Places.{set_back}
use Rattle.law_recorded.proofs.Plays.{stage, IsWay, IsSoFar, SoFar, Play, earlier, at_party}

-- what a reply stands for is nothing, one effect, or a front and its arrive
abbrev IsFew : List (Effect ℕ) → Type 0
IsFew es = (es ≡ []) ⊎ ((e : Effect ℕ) × (es ≡ e ∷ [])) ⊎ ((old v : ℕ) × (es ≡ Effect.Front old v ∷ Effect.Arrive ∷ []))

few_of : {c : Call ℕ} {r : Reply ℕ} {es : List (Effect ℕ)} → TellsAs c r es → IsFew es
few_of nothing = inl refl
few_of (append v) = inr (inl (Effect.Append v, refl))
few_of (take x asked told) = inr (inl (Effect.Take x, refl))
few_of (replace old v asked told) = inr (inl (Effect.Replace old v, refl))
few_of (displace old v asked told) = inr (inr (old, v, refl))
few_of (close asked told) = inr (inl (Effect.Close, refl))
few_of self_close = inr (inl (Effect.SelfClose, refl))

-- lists whose last is named
some_last : {X : Type 0} (xs ys : List X) (y : X) → xs ++ y ∷ ys ≡ [] → ⊥
some_last [] ys y e = cc
some_last (x ∷ xs) ys y e = cc

one_last : {X : Type 0} (xs : List X) (x y : X) → xs ++ y ∷ [] ≡ x ∷ [] → (xs ≡ []) × (y ≡ x)
one_last [] x y e = (refl, cc)
one_last (z ∷ xs) x y e = absurd (some_last xs [] y (cc))

two_last : {X : Type 0} (xs : List X) (a b y : X) → xs ++ y ∷ [] ≡ a ∷ b ∷ [] → (xs ≡ a ∷ []) × (y ≡ b)
two_last [] a b y e = absurd (cc)
two_last (z ∷ xs) a b y e =
    let more : xs ++ y ∷ [] ≡ b ∷ [] = cc in
    let first : z ≡ a = cc in
    let last = one_last xs b y more in
    let none = last.0 in
    (cc, last.1)

-- How far the call o of party p was before its effect e, by which it came so far: an order that goes on from there has a move more.
record Was (p : ℕ) (flag : Bool) (o : Open ℕ) (Q : State ℕ) (e : Effect ℕ) (way : Way) : Type 0 where
  before : Way
  move : Move
  is : IsWay flag o before
  goes : (ways : List (Option Way)) (es : List Event) (ms : List Move) → slice_get ways p ≡ Some (Some before) → Goes (stage (made e Q) (slice_set ways p (Some way))) es ms → Goes (stage Q ways) es (move ∷ ms)

module _ (p : ℕ) (flag : Bool) (o : Open ℕ) (Q : State ℕ) (e : Effect ℕ) (may : MayMake (kind_of e) o) (fits : Fits e Q) (opened : o.was_open ≡ true → flag ≡ true) where
  parts : (r : Reply ℕ) (old v : ℕ) → o.effects ≡ [] → e ≡ Effect.Front old v → Tells o.call r (Effect.Front old v ∷ Effect.Arrive ∷ []) → Was p flag o Q e (Halfway r)
  parts r old v none is tells =
      let front : MayMake (kind_of (Effect.Front old v)) o = subst (λ x. MayMake (kind_of x) o) is may in
      let saw_open : flag ≡ true = opened front in
      record {
        before = Waiting o.call flag;
        move = move.Part p r;
        is = (refl, refl, none);
        goes = λ ways es ms at g.
            let there : slice_get ways p ≡ Some (Some (Waiting o.call true)) = subst (λ b. slice_get ways p ≡ Some (Some (Waiting o.call b))) saw_open at in
            (stage (made e Q) (slice_set ways p (Some (Halfway r))), es, ((o.call, old, v, there, tells, subst (λ x. Fits x Q) is fits, refl, ap (λ x. stage (made x Q) (slice_set ways p (Some (Halfway r)))) is), refl), g);
      }

  acts : (r : Reply ℕ) → o.effects ≡ [] → Tells o.call r (e ∷ []) → Was p flag o Q e (Answered r)
  acts r none tells = record {
    before = Waiting o.call flag;
    move = move.Act p r;
    is = (refl, refl, none);
    goes = λ ways es ms at g. (stage (made e Q) (slice_set ways p (Some (Answered r))), es, ((o.call, flag, e, at, tells, fits, refl), refl), g);
  }

  arrives : (r : Reply ℕ) (old v : ℕ) → o.effects ≡ Effect.Front old v ∷ [] → e ≡ Effect.Arrive → Tells o.call r (Effect.Front old v ∷ Effect.Arrive ∷ []) → Was p flag o Q e (Answered r)
  arrives r old v front is tells = record {
    before = Halfway r;
    move = move.Arrive p;
    is = (old, v, front, tells);
    goes = λ ways es ms at g. (stage (made e Q) (slice_set ways p (Some (Answered r))), es, ((r, at, subst (λ x. Fits x Q) is fits, refl, ap (λ x. stage (made x Q) (slice_set ways p (Some (Answered r)))) is), refl), g);
  }

  was : (o' : Open ℕ) (way : Way) → o'.call ≡ o.call → o'.effects ≡ o.effects ++ e ∷ [] → IsWay flag o' way → Was p flag o Q e way
  was o' (Waiting c b) call effects (asked, flagged, none) = absurd (some_last o.effects [] e (sym effects ∙ none))
  was o' (Halfway r) call effects (old, v, front, tells) =
      let last = one_last o.effects (Effect.Front old v) e (sym effects ∙ front) in
      parts r old v last.0 last.1 (subst (λ c. Tells c r (Effect.Front old v ∷ Effect.Arrive ∷ [])) call tells)
  was o' (Answered r) call effects (tells, right) =
      let told : Tells o.call r (o.effects ++ e ∷ []) = subst (λ c. Tells c r (o.effects ++ e ∷ [])) call (subst (Tells o'.call r) effects tells) in
      elim (few_of (tells_as o.call r (o.effects ++ e ∷ []) told)) [
        | inl none ↦ absurd (some_last o.effects [] e none)
        | inr (inl (x, one)) ↦ let last = one_last o.effects x e one in acts r last.0 (subst (λ es. Tells o.call r (es ++ e ∷ [])) last.0 told)
        | inr (inr (old, v, two)) ↦ let last = two_last o.effects (Effect.Front old v) Effect.Arrive e two in arrives r old v last.0 last.1 (subst (Tells o.call r) two told)
      ]

pub put_here : (f : ℕ → Option (Open ℕ)) (p : ℕ) (x : Option (Open ℕ)) → put f p x p ≡ x
put_here f p x = ap (λ (b : Bool). if b then x else f p) (eq-eqb p p refl)

pub put_other : (f : ℕ → Option (Open ℕ)) (p q : ℕ) (x : Option (Open ℕ)) → q ≢ p → put f p x q ≡ f q
put_other f p q x ne = ap (λ (b : Bool). if b then x else f q) (ne_eqb q p ne)

-- a call put where it is
pub put_same : (f : ℕ → Option (Open ℕ)) (p q : ℕ) (x : Option (Open ℕ)) → f p ≡ x → put f p x q ≡ f q
put_same f p q x is = elim (cases_eq q p) [
  | inl same ↦ subst (λ k. put f p x k ≡ f k) (sym same) (put_here f p x ∙ sym is)
  | inr ne ↦ put_other f p q x ne
]

-- before the effect the queue was at Q, and party p was in the call o
pub before_effect : {parties : ℕ} {es : List Event} (flags : ℕ → Bool) (calls : ℕ → Option (Open ℕ)) (p : ℕ) (o o' : Open ℕ) (Q : State ℕ) (e : Effect ℕ) → p < parties → calls p ≡ Some o → MayMake (kind_of e) o → Fits e Q
    → (o.was_open ≡ true → flags p ≡ true) → o'.call ≡ o.call → o'.effects ≡ o.effects ++ e ∷ [] → Play parties (made e Q) (SoFar flags (put calls p (Some o'))) es → Play parties Q (SoFar flags calls) es
before_effect {parties} {es} flags calls p o o' Q e lt in_call may fits opened call effects play = from here.0 here.1 (subst (λ x. IsSoFar (flags p) x here.0) (put_here calls p (Some o')) here.2)
  where
    here : (w : Option Way) × (slice_get play.ways p ≡ Some w) × SoFar flags (put calls p (Some o')) p w
    here = at_party play p lt

    from : (w : Option Way) → slice_get play.ways p ≡ Some w → IsSoFar (flags p) (Some o') w → Play parties Q (SoFar flags calls) es
    from None at far = absurd far
    from (Some way) at far =
        let w = was p (flags p) o Q e may fits opened o' way call effects far in
        let ways : List (Option Way) = slice_set play.ways p (Some w.before) in
        earlier play p (Some way) (Some w.before) at Q (SoFar flags calls) es (w.move ∷ play.moves)
        (subst (λ x. IsSoFar (flags p) x (Some w.before)) (sym in_call) w.is)
        (λ q v ne may. subst (λ x. IsSoFar (flags q) x v) (put_other calls p q (Some o') ne) may)
        (w.goes ways es play.moves (set_here play.ways p (Some way) (Some w.before) at) (subst (λ l. Goes (stage (made e Q) l) es play.moves) (sym (set_back play.ways p (Some way) (Some w.before) at)) play.goes))

-- how far a call in progress may be at the end: it waits, has one of its effects, or has all of them
longer : {X : Type 0} (x a b y : X) (xs ys : List X) → x ∷ (xs ++ y ∷ ys) ≡ a ∷ b ∷ [] → (x ≡ a) × (xs ≡ [])
longer x a b y [] ys e = (cc, refl)
longer x a b y (z ∷ xs) ys e = absurd (some_last xs ys y (cc))

way_of : (flag : Bool) (o : Open ℕ) (es : List (Effect ℕ)) → o.effects ≡ es → IsBegun o.call es → (way : Way) × IsWay flag o way
way_of flag o [] is begun = (Waiting o.call flag, (refl, refl, is))
way_of flag o (x ∷ xs) is (r, [], tells) = (Answered r, (subst (Tells o.call r) (append-nil (x ∷ xs) ∙ sym is) tells, λ none. absurd (let no = sym is ∙ none in cc)))
way_of flag o (x ∷ xs) is (r, y ∷ ys, tells) = elim (few_of (tells_as o.call r (x ∷ (xs ++ y ∷ ys)) tells)) [
  | inl none ↦ absurd (cc)
  | inr (inl (z, one)) ↦ absurd (some_last xs ys y (cc))
  | inr (inr (old, v, two)) ↦
      let both = longer x (Effect.Front old v) Effect.Arrive y xs ys two in
      let first = both.0 in
      let alone = both.1 in
      (Halfway r, (old, v, is ∙ (cc), subst (Tells o.call r) two tells))
]

pub far_of : (flag : Bool) (x : Option (Open ℕ)) → ((o : Open ℕ) → x ≡ Some o → IsBegun o.call o.effects) → (w : Option Way) × IsSoFar flag x w
far_of flag None begun = (None, tt)
far_of flag (Some o) begun = let far = way_of flag o o.effects refl (begun o refl) in (Some far.0, far.1)
