-- What is played after an event, played before it: a beginning, a call without steps, and a step with its effect and its reply.
use Rattle.std.proofs.Common.{◌≡◌, ◌≢◌, ◌∙◌, ◌⊎◌, inl, inr, ℕ, ◌<◌, ◌==◌, not, Bool, true, Option, Some, None, is_some, List, [], ◌∷◌, refl, sym, ap, subst, eq-eqb, if◌then◌else◌}
use Rattle.std.proofs.lemmas.Bool.{cases_eq, ne_eqb}
use Rattle.std.specs.Prelude.{slice_get, slice_set}
use Rattle.queue_steps.specs.State.{State}
use Rattle.queue_steps.specs.Replies.{IsRightAt}
use Rattle.machine_replay.specs.Vocabulary.{Call, Reply, Effect, EffectKind}
use Rattle.machine_replay.specs.Book.{Open, Moves, GoesOn, begun, joined, watched, seen_by, after_own, put, at_open}
use Rattle.history_check.specs.declared.recorded.Event.{Event}
use Rattle.history_check.specs.declared.recorded.Event.TheVariants.{Begin, End}
use Rattle.history_check.specs.declared.recorded.Move.TheVariants as move
use Rattle.history_check.specs.declared.recorded.Way.{Way}
use Rattle.history_check.specs.declared.recorded.Way.TheVariants.{Waiting, Halfway, Answered}
use Rattle.history_check.proofs.Moves.{set_here}
use Rattle.law_recorded.proofs.Places.{set_back, set_twice, any_none}
use Rattle.law_recorded.proofs.Plays.{stage, IsSoFar, SoFar, Play, earlier, known, at_party}
use Rattle.law_recorded.proofs.Seeing.{Sees, SeesIf, unseen}
use Rattle.law_recorded.proofs.Effects.{put_here, put_other, put_same, before_effect}

-- between calls nothing is so far
pub none_far : (flag : Bool) (w : Option Way) → IsSoFar flag None w → w ≡ None
none_far flag None far = refl
none_far flag (Some way) far = absurd far

-- a call just begun waits
begun_waits : (flag : Bool) (k : Call ℕ) (w : Option Way) → IsSoFar flag (Some (begun k)) w → w ≡ Some (Waiting k flag)
begun_waits flag k None far = absurd far
begun_waits flag k (Some (Waiting c b)) (asked, flagged, none) = cc
begun_waits flag k (Some (Halfway r)) (old, v, front, tells) = absurd (cc)
begun_waits flag k (Some (Answered r)) (tells, right) = absurd (any_none _ (right refl))

-- and that another call began changes nothing of one
unjoined : (flag : Bool) (x : Option (Open ℕ)) (w : Option Way) → IsSoFar flag (at_open joined x) w → IsSoFar flag x w
unjoined flag None None far = far
unjoined flag None (Some way) far = far
unjoined flag (Some o) None far = far
unjoined flag (Some o) (Some (Waiting c b)) far = far
unjoined flag (Some o) (Some (Halfway r)) far = far
unjoined flag (Some o) (Some (Answered r)) far = far

-- the calls, and the flags, after an event
abbrev pub joined_calls : (ℕ → Option (Open ℕ)) → ℕ → Option (Open ℕ)
joined_calls calls q = at_open joined (calls q)

abbrev pub watched_calls : State ℕ → (ℕ → Option (Open ℕ)) → ℕ → Option (Open ℕ)
watched_calls R calls q = at_open (watched R) (calls q)

abbrev pub with_flag : (ℕ → Bool) → ℕ → Bool → ℕ → Bool
with_flag flags p flag q = if q == p then flag else flags q

pub flag_here : (flags : ℕ → Bool) (p : ℕ) (flag : Bool) → with_flag flags p flag p ≡ flag
flag_here flags p flag = ap (λ (b : Bool). if b then flag else flags p) (eq-eqb p p refl)

pub flag_other : (flags : ℕ → Bool) (p q : ℕ) (flag : Bool) → q ≢ p → with_flag flags p flag q ≡ flags q
flag_other flags p q flag ne = ap (λ (b : Bool). if b then flag else flags q) (ne_eqb q p ne)

module _ {parties : ℕ} (Q : State ℕ) (calls : ℕ → Option (Open ℕ)) (flags : ℕ → Bool) (p : ℕ) (k : Call ℕ) (lt : p < parties) (free : calls p ≡ None) where
  -- where the party is between calls
  is_free : {es : List Event} (play : Play parties Q (SoFar flags calls) es) → slice_get play.ways p ≡ Some None
  is_free play = let here = at_party play p lt in here.1 ∙ ap Some (none_far (flags p) here.0 (subst (λ x. IsSoFar (flags p) x here.0) free here.2))

  -- before a beginning
  pub before_begin : {es : List Event} → Play parties Q (SoFar (with_flag flags p (not Q.closed)) (put (joined_calls calls) p (Some (begun k)))) es → Play parties Q (SoFar flags calls) (Begin p k ∷ es)
  before_begin {es} play =
      let here = at_party play p lt in
      let flag : Bool = not Q.closed in
      let far : IsSoFar flag (Some (begun k)) here.0 =
      subst (λ x. IsSoFar flag x here.0) (put_here (joined_calls calls) p (Some (begun k))) (subst (λ f. IsSoFar f (put (joined_calls calls) p (Some (begun k)) p) here.0) (flag_here flags p flag) here.2) in
      let waits : Option Way = Some (Waiting k flag) in
      let now : slice_get play.ways p ≡ Some waits = here.1 ∙ ap Some (begun_waits flag k here.0 far) in
      earlier play p waits None now Q (SoFar flags calls) (Begin p k ∷ es) (move.Event ∷ play.moves)
      (subst (λ x. IsSoFar (flags p) x None) (sym free) tt)
      (λ q v ne may. unjoined (flags q) (calls q) v
      (subst (λ x. IsSoFar (flags q) x v) (put_other (joined_calls calls) p q (Some (begun k)) ne) (subst (λ f. IsSoFar f (put (joined_calls calls) p (Some (begun k)) q) v) (flag_other flags p q flag ne) may)))
      (stage Q play.ways, es, (set_here play.ways p waits None now, ap (stage Q) (sym (set_back play.ways p waits None now)), refl), play.goes)

  -- before a call without steps, which ends where it begins
  pub before_both : {es : List Event} (r : Reply ℕ) → IsRightAt Q k r → Play parties Q (SoFar flags calls) es → Play parties Q (SoFar flags calls) (Begin p k ∷ End p r ∷ es)
  before_both {es} r right play =
      let flag : Bool = not Q.closed in
      let waits : Option Way = Some (Waiting k flag) in
      let has : Option Way = Some (Answered r) in
      let ways : List (Option Way) = slice_set play.ways p waits in
      let now = is_free play in
      let waiting : slice_get ways p ≡ Some waits = set_here play.ways p None waits now in
      let answered : slice_get (slice_set ways p has) p ≡ Some has = set_here ways p waits has waiting in
      let back : slice_set (slice_set ways p has) p None ≡ play.ways = ap (λ l. slice_set l p None) (set_twice play.ways p waits has) ∙ set_back play.ways p None has now in
      record {
        ways = play.ways;
        many = play.many;
        may = play.may;
        moves = move.Event ∷ move.See p r ∷ move.Event ∷ play.moves;
        goes = (
          stage Q ways,
          End p r ∷ es,
          (now, refl, refl),
          (stage Q (slice_set ways p has), End p r ∷ es, ((k, flag, waiting, inl right, refl), refl), (stage Q play.ways, es, (answered, ap (stage Q) (sym back), refl), play.goes)),
        );
      }

-- what is recorded of a reply, if there is one, before the rest
abbrev pub ends : ℕ → Option (Reply ℕ) → List Event → List Event
ends p None es = es
ends p (Some r) es = End p r ∷ es

-- what a step shows of the queue to all calls in progress
seen_more : (Q : State ℕ) (ms : List (State ℕ)) → (seen_by Q ms ≡ ms) ⊎ (seen_by Q ms ≡ Q ∷ ms)
seen_more Q [] = inl refl
seen_more Q (m ∷ ms) = inr refl

watches : (Q : State ℕ) (x : Option (Open ℕ)) → SeesIf Q x (at_open (watched Q) x)
watches Q None = tt
watches Q (Some o) = record { call = refl; effects = refl; moments = seen_more Q o.moments }

all_see : (Q : State ℕ) (calls : ℕ → Option (Open ℕ)) (p : ℕ) (o o' : Open ℕ) → Sees Q o o' → (q : ℕ) → SeesIf Q (put calls p (Some o) q) (put (watched_calls Q calls) p (Some o') q)
all_see Q calls p o o' sees q =
    let S : ℕ → Type 0 = λ k. SeesIf Q (put calls p (Some o) k) (put (watched_calls Q calls) p (Some o') k) in
    elim (cases_eq q p) [
      | inl same ↦ subst S (sym same) (subst (λ x. SeesIf Q x (put (watched_calls Q calls) p (Some o') p)) (sym (put_here calls p (Some o))) (subst (SeesIf Q (Some o)) (sym (put_here (watched_calls Q calls) p (Some o'))) sees))
      | inr ne ↦ subst (λ x. SeesIf Q x (put (watched_calls Q calls) p (Some o') q)) (sym (put_other calls p q (Some o) ne)) (subst (SeesIf Q (calls q)) (sym (put_other (watched_calls Q calls) p q (Some o') ne)) (watches Q (calls q)))
    ]

-- a step of party p, which was in the call o and is in o' then, and leaves the queue at R
module _ {parties : ℕ} {es : List Event} (Q R : State ℕ) (calls : ℕ → Option (Open ℕ)) (flags : ℕ → Bool) (p : ℕ) (lt : p < parties) (o : Open ℕ) (in_call : calls p ≡ Some o) where
  -- before the reply, if there is one
  pub before_end : (o' : Open ℕ) (r : Option (Reply ℕ)) → GoesOn o' r → Play parties R (SoFar flags (put (watched_calls R calls) p (if is_some r then None else Some o'))) es
      → Play parties R (SoFar flags (put (watched_calls R calls) p (Some o'))) (ends p r es)
  before_end o' None goes play = play
  before_end o' (Some r) goes play =
      let here = at_party play p lt in
      let far : IsSoFar (flags p) None here.0 = subst (λ x. IsSoFar (flags p) x here.0) (put_here (watched_calls R calls) p None) here.2 in
      let now : slice_get play.ways p ≡ Some None = here.1 ∙ ap Some (none_far (flags p) here.0 far) in
      let w : Option Way = Some (Answered r) in
      earlier play p None w now R (SoFar flags (put (watched_calls R calls) p (Some o'))) (End p r ∷ es) (move.Event ∷ play.moves)
      (subst (λ x. IsSoFar (flags p) x w) (sym (put_here (watched_calls R calls) p (Some o'))) goes)
      (λ q v ne may. subst (λ x. IsSoFar (flags q) x v) (put_other (watched_calls R calls) p q None ne ∙ sym (put_other (watched_calls R calls) p q (Some o') ne)) may)
      (stage R play.ways, es, (set_here play.ways p None w now, ap (stage R) (sym (set_back play.ways p None w now)), refl), play.goes)

  -- before all that was seen of the queue, and before the effect, if there is one
  pub before_moves : (busy : ℕ) (k : Option EffectKind) (effects : List (Effect ℕ)) → (o.was_open ≡ true → flags p ≡ true) → Moves Q o k R effects
      → Play parties R (SoFar flags (put (watched_calls R calls) p (Some (after_own busy o R effects)))) es → Play parties Q (SoFar flags calls) es
  before_moves busy None effects opened (same, none) play =
      let mine : Open ℕ = after_own busy o R effects in
      let sees : Sees R o mine = record { call = refl; effects = none; moments = inr refl } in
      let all = unseen flags (put calls p (Some o)) (put (watched_calls R calls) p (Some mine)) (all_see R calls p o mine sees) play in
      subst (λ q. Play parties q (SoFar flags calls) es) same (known all (SoFar flags calls) (λ q v at may. subst (λ x. IsSoFar (flags q) x v) (put_same calls p q (Some o) in_call) may))
  before_moves busy (Some k) effects opened (e, is, may, fits, leads, more) play =
      let mine : Open ℕ = after_own busy o R effects in
      let sees : Sees R mine mine = record { call = refl; effects = refl; moments = inl refl } in
      let all = unseen flags (put calls p (Some mine)) (put (watched_calls R calls) p (Some mine)) (all_see R calls p mine mine sees) play in
      before_effect flags calls p o mine Q e lt in_call (rw is may) fits opened refl more (subst (λ q. Play parties q (SoFar flags (put calls p (Some mine))) es) leads all)
