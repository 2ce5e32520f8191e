-- Without calls that look at the list alone, what is legal where a displacement takes two steps is legal where it is one: the arrival goes to its front, and what is displaced behind a close goes ahead of it.
use Rattle.std.proofs.Common.{◌≡◌, ◌≢◌, ◌∙◌, ℕ, Bool, true, false, not, Option, Some, None, List, [], ◌∷◌, refl, ap, sym, subst}
use Rattle.std.specs.Prelude.{slice_get, slice_set}
use Rattle.std.specs.List.{AllByRecursion}
use Rattle.queue_steps.specs.{State.State, State.is_slot_cap, Effect.Fits, Effect.made, Effect.with_coming, Replies.Allows, Replies.Tells, Looks.IsGlance}
use Rattle.queue_steps.specs.declared.{model.Call.Call, model.Reply.Reply, model.Effect.Effect, model.Effect.Effect as effect}
use Rattle.queue_laws.specs.Moment.Moments.{arrived}
use Rattle.queue_laws.proofs.Common.TellsAs.{TellsAs, nothing, append, take, replace, displace, close, self_close, tells_as}
use Rattle.queue_laws.proofs.Moment.{Closed.agrees_arrived, Closed.arrived_arrive, Closed.arrived_take, Closed.take_first, Settling.Sound, Settling.sound_on, Settling.sound_start, Answering.allowed_there}
use Rattle.history_check.specs.declared.recorded.{Event.Event, Event.TheVariants.Begin, Event.TheVariants.End, Move.Move, Way.Way, Way.TheVariants.Waiting, Way.TheVariants.Halfway, Way.TheVariants.Answered}
use Rattle.history_check.specs.Legal.{in_steps, Stage, IsAt, moved, opening, MayRecord, recorded, Makes}
use Rattle.history_check.proofs.{Moves.set_here, Moves.set_other, Orders.along}
use Rattle.law_recorded.specs.OneStep.{BeginsNoGlance, TwoStepsAreOne}
use Rattle.law_recorded.proofs.{Places.set_twice, OneStep.AllOnWay, OneStep.on_way, OneStep.none_on_way}
use Rattle.law_recorded.proofs.Ahead.{displaced, GoesAhead, Calm, all_in_order, goes_before, swapped}

-- a call that waits does not look at the list alone, and a displacement is halfway in this party's call alone
abbrev IsFine : Option ℕ → ℕ → Way → Type 0
IsFine halfway p (Waiting c b) = ¬ (IsGlance c)
IsFine halfway p (Halfway r) = halfway ≡ Some p
IsFine halfway p (Answered r) = Unit {0}

-- the stage by the rules of one step, where nothing is halfway, and where the call of this party is
abbrev calm : Stage → Stage
calm s = record s { at_once = true }

abbrev settled : Stage → ℕ → Reply ℕ → Stage
settled s q x = moved (calm s) (arrived s.queue) q (Some (Answered x))

-- where nothing is halfway
abbrev FromCalm : Stage → List Event → Type 0
FromCalm s es = AllOnWay (IsFine None) s.calls → s.queue.coming ≡ None → GoesAhead (calm s) es

-- where a displacement is
abbrev FromHalfway : Stage → List Event → Type 0
FromHalfway s es = (q : ℕ) (x : Reply ℕ) (y : ℕ) → AllOnWay (IsFine (Some q)) s.calls → IsAt s q (Halfway x) → s.queue.coming ≡ Some y → GoesAhead (settled s q x) es

abbrev GoesInOne : Stage → List Event → List Move → Type 0
GoesInOne s es ms = s.at_once ≡ false → Sound s.queue → AllByRecursion BeginsNoGlance es → FromCalm s es × FromHalfway s es

is_calm : (s : Stage) → Sound s.queue → s.queue.coming ≡ None → Calm (calm s)
is_calm s sound none = record { at_once = refl; none = none; sound = sound }

is_settled : (s : Stage) (q : ℕ) (x : Reply ℕ) (y : ℕ) → Sound s.queue → s.queue.coming ≡ Some y → Calm (settled s q x)
is_settled s q x y sound coming = record { at_once = refl; none = refl; sound = subst (λ (Q : State ℕ). Sound Q) (arrived_arrive s.queue y coming) (sound_on effect.Arrive s.queue (y, coming) sound) }

-- the party that is halfway is another one than one that is so far
not_halfway : (s : Stage) (p q : ℕ) (x : Reply ℕ) (o : Option Way) → slice_get s.calls p ≡ Some o → (o ≡ Some (Halfway x) → ⊥) → IsAt s q (Halfway x) → q ≢ p
not_halfway s p q x o here not there same = not (let also : slice_get s.calls p ≡ Some (Some (Halfway x)) = rw same at there in cc)

-- the calls are as fine where an event is recorded
fine_event : (halfway : Option ℕ) (s : Stage) (e : Event) → BeginsNoGlance e → AllOnWay (IsFine halfway) s.calls → AllOnWay (IsFine halfway) (recorded s e).calls
fine_event halfway s (Begin p c) unseeing fine =
    on_way (IsFine halfway) (IsFine halfway) s.calls p (Some (Waiting c (not s.queue.closed))) (λ k w ne is. is) (λ w is. let same : Waiting c (not s.queue.closed) ≡ w = cc in subst (IsFine halfway p) same unseeing) fine
fine_event halfway s (End p r) unseeing fine = on_way (IsFine halfway) (IsFine halfway) s.calls p None (λ k w ne is. is) (λ w is. absurd (cc)) fine

-- and where a call has got its reply
fine_answered : (halfway : Option ℕ) (s : Stage) (p : ℕ) (r : Reply ℕ) → AllOnWay (IsFine halfway) s.calls → AllOnWay (IsFine halfway) (slice_set s.calls p (Some (Answered r)))
fine_answered halfway s p r fine = on_way (IsFine halfway) (IsFine halfway) s.calls p (Some (Answered r)) (λ k w ne is. is) (λ w is. let same : Answered r ≡ w = cc in subst (IsFine halfway p) same tt) fine

sound_event : (s : Stage) (e : Event) → Sound s.queue → Sound (recorded s e).queue
sound_event s (Begin p c) sound = sound
sound_event s (End p r) sound = sound

two_event : (s : Stage) (e : Event) → s.at_once ≡ false → (recorded s e).at_once ≡ false
two_event s (Begin p c) two = two
two_event s (End p r) two = two

calm_event : (s : Stage) (e : Event) (es : List Event) → MayRecord s e → BeginsNoGlance e → Sound s.queue → FromCalm (recorded s e) es → FromCalm s (e ∷ es)
calm_event s (Begin p c) es may unseeing sound later fine none =
    goes_before Move.Event (calm s) (recorded (calm s) (Begin p c)) (Begin p c ∷ es) es (is_calm s sound none) refl (may, refl, refl) (later (fine_event None s (Begin p c) unseeing fine) none)
calm_event s (End p r) es may unseeing sound later fine none =
    goes_before Move.Event (calm s) (recorded (calm s) (End p r)) (End p r ∷ es) es (is_calm s sound none) refl (may, refl, refl) (later (fine_event None s (End p r) unseeing fine) none)

halfway_event : (s : Stage) (e : Event) (es : List Event) → MayRecord s e → BeginsNoGlance e → Sound s.queue → FromHalfway (recorded s e) es → FromHalfway s (e ∷ es)
halfway_event s (Begin p c) es may unseeing sound later q x y fine there coming =
    let o : Option Way = Some (Waiting c (not s.queue.closed)) in
    let a : Option Way = Some (Answered x) in
    let ne = not_halfway s p q x None may (λ is. cc) there in
    let on : IsAt (recorded s (Begin p c)) q (Halfway x) = set_other s.calls p q o ne ∙ there in
    let goes = later q x y (fine_event (Some q) s (Begin p c) unseeing fine) on coming in
    let free = set_other s.calls q p a (λ same. ne (sym same)) ∙ may in
    let is = swapped (calm s) (arrived s.queue) s.queue (arrived s.queue) p q a o (λ same. ne (sym same)) in
    goes_before Move.Event (settled s q x) (settled (recorded s (Begin p c)) q x) (Begin p c ∷ es) es (is_settled s q x y sound coming) refl (free, sym is, refl) goes
halfway_event s (End p r) es may unseeing sound later q x y fine there coming =
    let a : Option Way = Some (Answered x) in
    let ne = not_halfway s p q x (Some (Answered r)) may (λ is. cc) there in
    let on : IsAt (recorded s (End p r)) q (Halfway x) = set_other s.calls p q None ne ∙ there in
    let goes = later q x y (fine_event (Some q) s (End p r) unseeing fine) on coming in
    let ends = set_other s.calls q p a (λ same. ne (sym same)) ∙ may in
    let is = swapped (calm s) (arrived s.queue) s.queue (arrived s.queue) p q a None (λ same. ne (sym same)) in
    goes_before Move.Event (settled s q x) (settled (recorded s (End p r)) q x) (End p r ∷ es) es (is_settled s q x y sound coming) refl (ends, sym is, refl) goes

one_by_event : (s : Stage) (e : Event) (es : List Event) (ms : List Move) → MayRecord s e → GoesInOne (recorded s e) es ms → GoesInOne s (e ∷ es) (Move.Event ∷ ms)
one_by_event s e es ms may later two sound (unseeing, others) =
    let on = later (two_event s e two) (sound_event s e sound) others in
    (calm_event s e es may unseeing sound on.0, halfway_event s e es may unseeing sound on.1)

-- an effect that is a whole call's
abbrev IsWhole : Effect ℕ → Type 0
IsWhole (effect.Front old v) = ⊥
IsWhole effect.Arrive = ⊥
IsWhole e = Unit {0}

is_whole : {c : Call ℕ} {r : Reply ℕ} {es : List (Effect ℕ)} → TellsAs c r es → (e : Effect ℕ) → es ≡ e ∷ [] → IsWhole e
is_whole nothing e is = absurd (cc)
is_whole (append v) e is = let same : effect.Append v ≡ e = cc in subst IsWhole same tt
is_whole (take x asked told) e is = let same : effect.Take x ≡ e = cc in subst IsWhole same tt
is_whole (replace old v asked told) e is = let same : effect.Replace old v ≡ e = cc in subst IsWhole same tt
is_whole (displace old v asked told) e is = absurd (cc)
is_whole (close asked told) e is = let same : effect.Close ≡ e = cc in subst IsWhole same tt
is_whole self_close e is = let same : effect.SelfClose ≡ e = cc in subst IsWhole same tt

-- nothing more is on its way in then, and nothing less
coming_made : (e : Effect ℕ) (Q : State ℕ) → IsWhole e → (made e Q).coming ≡ Q.coming
coming_made (effect.Front old v) Q whole = absurd whole
coming_made effect.Arrive Q whole = absurd whole
coming_made (effect.Append v) Q whole = refl
coming_made (effect.Take v) Q whole = refl
coming_made (effect.Replace old v) Q whole = refl
coming_made effect.Close Q whole = refl
coming_made effect.SelfClose Q whole = refl

-- such an effect, while an item is on its way in, is the same once that has arrived
arrived_made : (e : Effect ℕ) (Q : State ℕ) (y : ℕ) → IsWhole e → Sound Q → Q.coming ≡ Some y → Fits e Q → Fits e (arrived Q) × (made e (arrived Q) ≡ arrived (made e Q))
arrived_made (effect.Front old v) Q y whole sound coming fits = absurd whole
arrived_made effect.Arrive Q y whole sound coming fits = absurd whole
arrived_made (effect.Append v) Q y whole sound coming fits = absurd (let none = fits.1 in cc)
arrived_made (effect.Take v) Q y whole sound coming (others, is) = ((with_coming others Q.coming, take_first Q.items others v Q.coming is), arrived_take Q v others is)
arrived_made (effect.Replace old v) Q y whole sound coming fits = absurd (let none = sound.single (ap is_slot_cap fits.0) in cc)
arrived_made effect.Close Q y whole sound coming fits = (fits, refl)
arrived_made effect.SelfClose Q y whole sound coming fits = absurd (let none = sound.below fits.2 fits.1 in cc)

-- one call gets its reply, without effect or with one that is a whole call's
module _ (s : Stage) (p : ℕ) (c : Call ℕ) (b : Bool) (r : Reply ℕ) (here : IsAt s p (Waiting c b)) (es : List Event) (sound : Sound s.queue) where
  abbrev After : State ℕ → Stage
  After Q = moved s Q p (Some (Answered r))

  calm_see : Allows c r s.queue → FromCalm (After s.queue) es → FromCalm s es
  calm_see allows later fine none =
      goes_before (Move.See p r) (calm s) (calm (After s.queue)) es es (is_calm s sound none) refl ((c, b, here, allows, refl), refl) (later (fine_answered None s p r fine) none)

  calm_act : (e : Effect ℕ) → Tells c r (e ∷ []) → Fits e s.queue → FromCalm (After (made e s.queue)) es → FromCalm s es
  calm_act e tells fits later fine none =
      let whole = is_whole (tells_as c r (e ∷ []) tells) e refl in
      goes_before (Move.Act p r) (calm s) (calm (After (made e s.queue))) es es (is_calm s sound none) refl ((c, b, e, here, tells, fits, refl), refl) (later (fine_answered None s p r fine) (coming_made e s.queue whole ∙ none))

  -- the party that is halfway, and where its call is behind the other's
  module _ (q : ℕ) (x : Reply ℕ) (there : IsAt s q (Halfway x)) where
    is_other : q ≢ p
    is_other = not_halfway s p q x (Some (Waiting c b)) here (λ is. cc) there

    waits : IsAt (settled s q x) p (Waiting c b)
    waits = set_other s.calls q p (Some (Answered x)) (λ same. is_other (sym same)) ∙ here

    stays : (Q : State ℕ) → IsAt (After Q) q (Halfway x)
    stays Q = set_other s.calls p q (Some (Answered r)) is_other ∙ there

    then : (Q : State ℕ) → settled (After Q) q x ≡ moved (settled s q x) (arrived Q) p (Some (Answered r))
    then Q = sym (swapped (calm s) (arrived s.queue) Q (arrived Q) p q (Some (Answered x)) (Some (Answered r)) (λ same. is_other (sym same)))

  halfway_see : Allows c r s.queue → FromHalfway (After s.queue) es → FromHalfway s es
  halfway_see allows later q x y fine there coming =
      let right = allowed_there [] s.queue (arrived s.queue) sound (agrees_arrived [] s.queue) c r allows (λ glance. absurd (fine p (Waiting c b) here glance)) in
      let goes = later q x y (fine_answered (Some q) s p r fine) (stays q x there s.queue) coming in
      goes_before (Move.See p r) (settled s q x) (settled (After s.queue) q x) es es (is_settled s q x y sound coming) refl ((c, b, waits q x there, right, then q x there s.queue), refl) goes

  halfway_act : (e : Effect ℕ) → Tells c r (e ∷ []) → Fits e s.queue → FromHalfway (After (made e s.queue)) es → FromHalfway s es
  halfway_act e tells fits later q x y fine there coming =
      let Q : State ℕ = made e s.queue in
      let whole = is_whole (tells_as c r (e ∷ []) tells) e refl in
      let made_there = arrived_made e s.queue y whole sound coming fits in
      let goes = later q x y (fine_answered (Some q) s p r fine) (stays q x there Q) (coming_made e s.queue whole ∙ coming) in
      let is = then q x there Q ∙ ap (λ (R : State ℕ). moved (settled s q x) R p (Some (Answered r))) (sym made_there.1) in
      goes_before (Move.Act p r) (settled s q x) (settled (After Q) q x) es es (is_settled s q x y sound coming) refl ((c, b, e, waits q x there, tells, made_there.0, is), refl) goes

-- a displacement begins, which then is whole
calm_part : (s : Stage) (p : ℕ) (c : Call ℕ) (r : Reply ℕ) (old v : ℕ) (es : List Event) → IsAt s p (Waiting c true) → Tells c r (effect.Front old v ∷ effect.Arrive ∷ []) → Fits (effect.Front old v) s.queue → FromHalfway (moved s (made (effect.Front old v) s.queue) p (Some (Halfway r))) es → FromCalm s es
calm_part s p c r old v es here tells fits later fine none =
    let h : Option Way = Some (Halfway r) in
    let t : Stage = moved s (made (effect.Front old v) s.queue) p h in
    let its : AllOnWay (IsFine (Some p)) t.calls = on_way (IsFine None) (IsFine (Some p)) s.calls p h (λ k w ne is. still k w is) (λ w is. let same : Halfway r ≡ w = cc in subst (IsFine (Some p) p) same refl) fine in
    let goes = later p r v its (set_here s.calls p (Some (Waiting c true)) h here) refl in
    let is : settled t p r ≡ moved (calm s) (displaced old v s.queue) p (Some (Answered r)) = ap (λ (l : List (Option Way)). record (calm s) { queue = displaced old v s.queue; calls = l }) (set_twice s.calls p h (Some (Answered r))) in
    ((p, r) ∷ goes.0, goes.1, goes.2, (settled t p r, (c, old, v, here, tells, fits, is), goes.3), goes.4)
  where
    still : (k : ℕ) (w : Way) → IsFine None k w → IsFine (Some p) k w
    still k (Waiting d a) fine = fine
    still k (Halfway x) fine = absurd (cc)
    still k (Answered x) fine = tt

-- and it ends
halfway_arrive : (s : Stage) (p : ℕ) (w : Reply ℕ) (es : List Event) → IsAt s p (Halfway w) → FromCalm (moved s (made effect.Arrive s.queue) p (Some (Answered w))) es → FromHalfway s es
halfway_arrive s p w es here later q x y fine there coming =
    let of_one : Some q ≡ Some p = fine p (Halfway w) here in
    let same : q ≡ p = cc in
    let its : w ≡ x = let also : slice_get s.calls p ≡ Some (Some (Halfway x)) = subst (λ (i : ℕ). slice_get s.calls i ≡ Some (Some (Halfway x))) same there in cc in
    let calls : AllOnWay (IsFine None) (slice_set s.calls p (Some (Answered w))) = on_way (IsFine (Some q)) (IsFine None) s.calls p (Some (Answered w)) (λ k o ne is. still k o (λ it. ne (sym it ∙ same)) is) (λ o is. let it : Answered w ≡ o = cc in subst (IsFine None p) it tt) fine in
    let goes = later calls refl in
    let queue : moved (calm s) (made effect.Arrive s.queue) p (Some (Answered w)) ≡ moved (calm s) (arrived s.queue) p (Some (Answered w)) = ap (λ (R : State ℕ). moved (calm s) R p (Some (Answered w))) (arrived_arrive s.queue y coming) in
    let party : moved (calm s) (arrived s.queue) p (Some (Answered w)) ≡ moved (calm s) (arrived s.queue) q (Some (Answered w)) = ap (λ (i : ℕ). moved (calm s) (arrived s.queue) i (Some (Answered w))) (sym same) in
    let reply : moved (calm s) (arrived s.queue) q (Some (Answered w)) ≡ settled s q x = ap (λ (z : Reply ℕ). moved (calm s) (arrived s.queue) q (Some (Answered z))) its in
    subst (λ (u : Stage). GoesAhead u es) (queue ∙ (party ∙ reply)) goes
  where
    still : (k : ℕ) (o : Way) → q ≢ k → IsFine (Some q) k o → IsFine None k o
    still k (Waiting d a) ne fine = fine
    still k (Halfway z) ne fine = absurd (ne (cc))
    still k (Answered z) ne fine = tt

one_by_move : (s t : Stage) (m : Move) (es : List Event) (ms : List Move) → Makes s m t → GoesInOne t es ms → GoesInOne s es (m ∷ ms)
one_by_move s t Move.Event es ms makes later two sound unseeing = absurd makes
one_by_move s t (Move.See p r) es ms (c, b, here, allows, is) later two sound unseeing =
    let on = subst (λ (u : Stage). GoesInOne u es ms) is later two sound unseeing in
    (calm_see s p c b r here es sound allows on.0, halfway_see s p c b r here es sound allows on.1)
one_by_move s t (Move.Act p r) es ms (c, b, e, here, tells, fits, is) later two sound unseeing =
    let on = subst (λ (u : Stage). GoesInOne u es ms) is later two (sound_on e s.queue fits sound) unseeing in
    (calm_act s p c b r here es sound e tells fits on.0, halfway_act s p c b r here es sound e tells fits on.1)
one_by_move s t (Move.Part p r) es ms (c, old, v, here, tells, fits, steps, is) later two sound unseeing =
    let on = subst (λ (u : Stage). GoesInOne u es ms) is later two (sound_on (effect.Front old v) s.queue fits sound) unseeing in
    (calm_part s p c r old v es here tells fits on.1, λ q x y fine there coming. absurd (let none = fits.2 in cc))
one_by_move s t (Move.Arrive p) es ms (w, here, fits, steps, is) later two sound unseeing =
    let on = subst (λ (u : Stage). GoesInOne u es ms) is later two (sound_on effect.Arrive s.queue fits sound) unseeing in
    (λ fine none. absurd (let some = fits.1 in cc), halfway_arrive s p w es here on.0)
one_by_move s t (Move.Displace p r) es ms (c, b, old, v, here, tells, fits, free, once, is) later two sound unseeing = absurd (cc)

pub two_steps_are_one : TwoStepsAreOne
two_steps_are_one cap parties events unseeing (moves, goes) =
    let start : Stage = opening (in_steps cap) parties in
    let all = along GoesInOne at_end (λ s e es ms may g. one_by_event s e es ms may) (λ s t m es ms makes g on. one_by_move s t m es ms makes (on t g)) moves events start goes refl (sound_start cap) unseeing in
    all_in_order (calm start) events refl refl (all.0 (none_on_way (IsFine None) parties) refl)
  where
    at_end : (s : Stage) → GoesInOne s [] []
    at_end s two sound unseeing = (λ fine none. ([], calm s, [], refl, refl), λ q x y fine there coming. ([], settled s q x, [], refl, refl))
