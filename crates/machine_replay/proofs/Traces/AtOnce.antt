-- The history of a replay settles into one whose displacements are moments.
use Rattle.std.proofs.Common.{◌≡◌, ◌⊎◌, ℕ, ◌+◌, ◌<◌, ◌≤◌, ◌==◌, ◌&&◌, nat_lt, Bool, true, false, Option, Some, None, List, [], ◌∷◌, length, refl, ap, sym, ◌∙◌, subst, inl, inr, arith, slice_get}
use Rattle.std.{specs.List.AllByRecursion, proofs.lemmas.Bool.Decides.eqb_tells, proofs.lemmas.Option.slice_get_within}
use Rattle.queue_steps.specs.{State.State, State.start, Effect.IsHistory, Replies.IsRightAt, Replies.Allows, Replies.Tells}
use Rattle.machine_replay.specs.{Vocabulary.Call, Vocabulary.Reply, Vocabulary.Effect, Vocabulary.Event, Vocabulary.Begin, Vocabulary.Step, Book.IsBegun, Book.has_steps, InCall.IsStepOf, InCall.IsUnanswered, InCall.IsInCall, Meaning.state_after, Meaning.own_effects, Meaning.SawOpen, Meaning.IsOwn}
use Rattle.machine_replay.specs.{Meaning.EndsCall, Meaning.RepliesAtOnce, Meaning.IsAnswer, AtOnce.IsWithinCall, AtOnce.IsGlanced, AtOnce.IsWhole, AtOnce.RunsDisplaceAtOnce, Skips.IsExact, Skips.SkippedIsExact}
use Rattle.queue_laws.proofs.{Common.Runs.cap_after, Moment.Naming.Rising, Moment.Choosing.before, Moment.Choosing.both_parts, Moment.Glances.cases_before, Moment.Glances.middle_or, Moment.Shut.In, Moment.Shut.each_with, Moment.Shut.each_in, Moment.Shut.each_append, Moment.Shut.closed_by}
use Rattle.queue_laws.proofs.Moment.{Settling.sound_start, Settling.sound_after, Histories.rising, Histories.histories_settle, Owning.is_few, Together.settle_paired, Together.stands_together}
use Rattle.queue_laws.specs.Moment.Moments.{IsGlance}
use Rattle.queue_laws.specs.Moment.Entries.{Entry, effects_in, state_before, front_first, fronts_at, other_first, other_entries, settle_first, settle, SeesNoMove, KeepsFronts, own_of, SettlesInto}

-- an effect at the event k, before the event n, is within a call from `first` to `last` exactly where one at n is
window_same : (first last k n : ℕ) → k < n → (first < n → n ≤ last → first < k) → (last < n → last < k) → (nat_lt first k && nat_lt k (last + 1)) ≡ (nat_lt first n && nat_lt n (last + 1))
window_same first last k n lt inside outside = grind arith

is_before : (k n : ℕ) → k ≤ n → nat_lt k (n + 1) ≡ true
is_before k n le = grind arith

within_call : (b : Bool) (first last n : ℕ) → (b && (nat_lt first n && nat_lt n (last + 1))) ≡ true → (first + 1 ≤ n) × (n < last + 1)
within_call true first last n is = (grind arith, grind arith)
within_call false first last n is = cc

module _ (T : Type 0) (cap : Option ℕ) (parties : ℕ) (events : List (Event T)) (skipped : List ℕ) (R : List (ℕ × ℕ × Reply T)) (H : List (Entry T)) where
  abbrev Calls : ℕ → ℕ → Type 0
  Calls p n = IsInCall events skipped R p n

  abbrev Own : Entry T → Type 0
  Own x = IsOwn cap events skipped H R x

  abbrev Exact : Type 0
  Exact = (n : ℕ) (x : Event T) → slice_get events n ≡ Some x → IsExact parties events skipped R n x

  unanswered_upto : (S : List (ℕ × ℕ × Reply T)) (p first m n : ℕ) → m ≤ n → IsUnanswered S p first n → IsUnanswered S p first m
  unanswered_upto [] p first m n le all = tt
  unanswered_upto (y ∷ S) p first m n le all =
      (λ is. elim (all.0 is) [ inl lt ↦ inl lt | inr late ↦ inr (omega (arith, le, late)) ], unanswered_upto S p first m n le all.1)

  -- no call begins within a call of its party
  begins_last : Exact → (p n m : ℕ) (c : Calls p n) (d : Calls p m) → c.first < m → c.first ≤ d.first
  begins_last exact p n m c d lt =
      elim (cases_before d.first c.first) [
        | inr le ↦ le
        | inl early ↦
            let within : Calls p c.first = record { first = d.first; call = d.call; begins = d.begins; before = early; unanswered = unanswered_upto R p d.first c.first m (omega (arith, lt)) d.unanswered } in
            absurd (elim (exact c.first (Begin p c.call) c.begins.0) [ inl ran ↦ ran.0.1 within | inr skip ↦ c.begins.1 skip.1 ])
      ]

  -- a call that takes a front after a close had seen the queue open before that
  saw_before : (x y : Entry T) → In x H → x.effect ≡ Effect.Close → (p first end : ℕ) (s : SawOpen cap events skipped H p first end) → s.step < x.event
  saw_before x y has is p first end s =
      elim (cases_before s.step x.event) [
        | inl lt ↦ lt
        | inr le ↦
            let shut : (state_after cap H s.step).closed ≡ true = closed_by (start cap 0) (λ z. nat_lt z.event (s.step + 1)) H x has (is_before x.event s.step le) is in
            let free = s.was_open in absurd (cc)
      ]

  -- no call of party p that is in progress behind the event `last` began up to it
  abbrev IsLastStep : ℕ → ℕ → Type 0
  IsLastStep p last = (n : ℕ) (c : Calls p n) → IsStepOf events skipped p n → last < n → last < c.first

  abbrev mine : ℕ → ℕ → ℕ → ℕ → ℕ → Bool
  mine p first last q n = (q == p) && (nat_lt first n && nat_lt n (last + 1))

  sees_none : Exact → (p last : ℕ) (c : Calls p last) → IsLastStep p last → (x : Entry T) → In x H → x.effect ≡ Effect.Close → (y : Entry T) → x.event < y.event → Own y
      → (old v : T) → y.effect ≡ Effect.Front old v → mine p c.first last y.party x.event ≡ mine p c.first last y.party y.event
  sees_none exact p last c ended x has is y lt own old v front =
      let saw = own.saw_open old v front in
      let open_before = saw_before x y has is y.party own.in_call.first y.event saw in
      elim (eqb_tells y.party p) [
        | inl e ↦
            let d : Calls p y.event = subst (λ (q : ℕ). Calls q y.event) e.1 own.in_call in
            let step : IsStepOf events skipped p y.event = subst (λ (q : ℕ). IsStepOf events skipped q y.event) e.1 own.step in
            let same_first : d.first ≡ own.in_call.first = refl in
            let seen : d.first < x.event = omega (arith, same_first, saw.later, open_before) in
            ap (λ (b : Bool). (y.party == p) && b)
            (window_same c.first last x.event y.event lt (λ begun inside. let first = begins_last exact p last y.event c d begun in omega (arith, first, seen)) (λ past. let first = ended y.event d step past in omega (arith, first, seen)))
        | inr e ↦ (λ i. e.0 i && (nat_lt c.first x.event && nat_lt x.event (last + 1))) ∙ sym (λ i. e.0 i && (nat_lt c.first y.event && nat_lt y.event (last + 1)))
      ]

  fronts_alike : Exact → (p last : ℕ) (c : Calls p last) → IsLastStep p last → (x : Entry T) → In x H → x.effect ≡ Effect.Close → (m : ℕ) (xs : List (Entry T)) → x.event < m → Rising m xs → AllByRecursion Own xs
      → SeesNoMove (mine p c.first last) x.event xs
  fronts_alike exact p last c ended x has is m [] lt up all = tt
  fronts_alike exact p last c ended x has is m (y ∷ xs) lt up all =
      (λ old v front. sees_none exact p last c ended x has is y (omega (arith, lt, up.0)) all.0 old v front, fronts_alike exact p last c ended x has is (y.event + 1) xs (omega (arith, lt, up.0)) up.1 all.1)

  -- what the call in progress of party p has done up to the event `last` is not moved into it nor out of it
  closes_within : Exact → (p last : ℕ) (c : Calls p last) → IsLastStep p last → (m : ℕ) (xs : List (Entry T)) → ((x : Entry T) → In x xs → In x H) → Rising m xs → AllByRecursion Own xs → KeepsFronts (mine p c.first last) xs
  closes_within exact p last c ended m [] sub up all = tt
  closes_within exact p last c ended m (x ∷ xs) sub up all =
      (λ is. fronts_alike exact p last c ended x (sub x (inl refl)) is (x.event + 1) xs (omega arith) up.1 all.1, closes_within exact p last c ended (x.event + 1) xs (λ y has. sub y (inr has)) up.1 all.1)

  -- each effect stands within its call
  abbrev Within : Entry T → Type 0
  Within x = IsWithinCall events skipped R x

  within_own : (x : Entry T) → Own x → Within x
  within_own x own =
      record { from = x.event; upto = x.event; starts = own.step; ends = own.step; in_call = own.in_call; later = own.in_call.before; before = omega arith; until = omega arith }

  within_moved : (x y : Entry T) → In x H → x.effect ≡ Effect.Close → x.event < y.event → Own y → (old v : T) → y.effect ≡ Effect.Front old v → (e : Effect T) → Within (record y { event = x.event; effect = e })
  within_moved x y has is lt own old v front e =
      let saw = own.saw_open old v front in
      let open_before = saw_before x y has is y.party own.in_call.first y.event saw in
      record { from = saw.step; upto = y.event; starts = saw.own; ends = own.step; in_call = own.in_call; later = saw.later; before = omega (arith, open_before); until = omega (arith, lt) }

  fronts_in : (x y : Entry T) → In x H → x.effect ≡ Effect.Close → x.event < y.event → Own y → (e : Effect T) → y.effect ≡ e → (zs : List (Entry T)) → AllByRecursion Within zs → AllByRecursion Within (front_first x.event y e zs)
  fronts_in x y has is lt own (Effect.Front old v) here zs all = (within_moved x y has is lt own old v here y.effect, (within_moved x y has is lt own old v here Effect.Arrive, all))
  fronts_in x y has is lt own e here zs all = all

  fronts_within : (x : Entry T) → In x H → x.effect ≡ Effect.Close → (m : ℕ) (xs : List (Entry T)) → x.event < m → Rising m xs → AllByRecursion Own xs → AllByRecursion Within (fronts_at x.event xs)
  fronts_within x has is m [] lt up all = tt
  fronts_within x has is m (y ∷ xs) lt up all =
      fronts_in x y has is (omega (arith, lt, up.0)) all.0 y.effect refl (fronts_at x.event xs) (fronts_within x has is (y.event + 1) xs (omega (arith, lt, up.0)) up.1 all.1)

  others_in : (y : Entry T) (e : Effect T) (zs : List (Entry T)) → Own y → AllByRecursion Within zs → AllByRecursion Within (other_first y e zs)
  others_in y (Effect.Front old v) zs own all = all
  others_in y Effect.Arrive zs own all = all
  others_in y e zs own all = (within_own y own, all)

  others_within : (xs : List (Entry T)) → AllByRecursion Own xs → AllByRecursion Within (other_entries xs)
  others_within [] all = tt
  others_within (y ∷ xs) all = others_in y y.effect (other_entries xs) all.0 (others_within xs all.1)

  arrives_in : (x : Entry T) → Own x → Within (record x { effect = Effect.Arrive })
  arrives_in x own = record { from = x.event; upto = x.event; starts = own.step; ends = own.step; in_call = own.in_call; later = own.in_call.before; before = omega arith; until = omega arith }

  settle_in : (x : Entry T) → In x H → (e : Effect T) → x.effect ≡ e → (xs : List (Entry T)) → Rising (x.event + 1) xs → Own x → AllByRecursion Own xs → AllByRecursion Within (settle xs) → AllByRecursion Within (settle_first x e xs (settle xs))
  settle_in x has (Effect.Front old v) is xs up own more all = (within_own x own, (arrives_in x own, all))
  settle_in x has Effect.Arrive is xs up own more all = all
  settle_in x has Effect.Close is xs up own more all =
      each_append Within (fronts_at x.event xs) (x ∷ other_entries xs) (fronts_within x has is (x.event + 1) xs (omega arith) up more) (within_own x own, others_within xs more)
  settle_in x has e is xs up own more all = (within_own x own, all)

  settle_within : (m : ℕ) (xs : List (Entry T)) → ((x : Entry T) → In x xs → In x H) → Rising m xs → AllByRecursion Own xs → AllByRecursion Within (settle xs)
  settle_within m [] sub up all = tt
  settle_within m (x ∷ xs) sub up all =
      settle_in x (sub x (inl refl)) x.effect refl xs up.1 all.0 all.1 (settle_within (x.event + 1) xs (λ y has. sub y (inr has)) up.1 all.1)

  none_or : (es : List (Effect T)) → (es ≡ []) ⊎ (es ≡ [] → ⊥)
  none_or [] = inl refl
  none_or (e ∷ es) = inr (λ is. cc)

  abbrev S : List (Entry T)
  S = settle H

  abbrev Answers : ℕ × ℕ × Reply T → Type 0
  Answers y = IsAnswer cap events skipped S R y ⊎ IsGlanced cap events skipped H R y

  -- a reply ended its call: no call of its party that is in progress later began before
  ended_by : (y : ℕ × ℕ × Reply T) → In y R → IsLastStep y.1 y.0
  ended_by y has n c step past =
      elim (each_in (λ z. z.1 ≡ y.1 → (z.0 < c.first) ⊎ (n ≤ z.0)) R y c.unanswered has refl) [ inl lt ↦ lt | inr le ↦ absurd (omega (arith, le, past)) ]

  ends_there : SettlesInto cap H S → Exact → AllByRecursion Own H → Rising 0 H → (y : ℕ × ℕ × Reply T) → In y R → EndsCall cap events skipped H R y.0 y.1 y.2 → Answers y
  ends_there settles exact all up y has ends =
      let c = ends.in_call in let own = mine y.1 c.first y.0 in
      let within : KeepsFronts own H = closes_within exact y.1 y.0 c (ended_by y has) 0 H (λ x here. here) up all in
      let same : own_of own S ≡ own_of own H = settles.own own c.call y.2 within ends.tells in
      let tells : Tells c.call y.2 (own_of own S) = subst (Tells c.call y.2) (sym same) ends.tells in
      elim (none_or (own_of own H)) [
        | inr some ↦ inl (inl (record { step = ends.step; in_call = c; tells = tells; right = λ none. absurd (some (sym same ∙ none)) }))
        | inl none ↦
            let right = ends.right none in let m = right.1 in
            let allowed : Allows c.call y.2 (state_after cap H m.at) = subst (Allows c.call y.2) m.state right.2 in
            elim (middle_or c.call (state_after cap H m.at)) [
              | inl calm ↦
                  inl (inl (record {
                    step = ends.step;
                    in_call = c;
                    tells = tells;
                    right = λ any. (state_after cap S m.at, record { step = m.step; at = m.at; own = m.own; later = m.later; from = m.from; upto = m.upto; state = refl }, settles.right (m.at + 1) c.call y.2 allowed calm);
                  }))
              | inr mid ↦
                  inr (record {
                    step = ends.step;
                    in_call = c;
                    glance = mid.0;
                    moment = state_after cap H m.at;
                    is_moment = record { step = m.step; at = m.at; own = m.own; later = m.later; from = m.from; upto = m.upto; state = refl };
                    coming = mid.1.0;
                    is_coming = mid.1.1;
                    right = allowed;
                  })
            ]
      ]

  -- the call that a reply ends has its effects in a row
  whole_there : SettlesInto cap H S → Exact → AllByRecursion Own H → Rising 0 H → (y : ℕ × ℕ × Reply T) → In y R → IsWhole cap events skipped R H S y
  whole_there settles exact all up y has ends =
      let c = ends.in_call in let own = mine y.1 c.first y.0 in
      let within : KeepsFronts own H = closes_within exact y.1 y.0 c (ended_by y has) 0 H (λ x here. here) up all in
      let same : own_of own S ≡ own_of own H = settles.own own c.call y.2 within ends.tells in
      (same, stands_together own S (c.first + 1) (y.0 + 1) (own_of own H) (settle_paired H) (is_few c.call y.2 (own_of own H) ends.tells) same (λ p n. within_call (p == y.1) c.first y.0 n))

  -- nothing is ever on its way into a queue without a capacity
  none_uncapped : IsHistory cap (effects_in H) → Rising 0 H → (n : ℕ) → cap ≡ None → (state_before cap H n).coming ≡ None
  none_uncapped legal up n is =
      let l : List (Effect T) = before n H in let whole = both_parts n 0 H up in
      let runs = subst (IsHistory cap) (sym whole) legal in
      let s = sound_after (start cap 0) l _ runs (sound_start cap) in s.uncapped (cap_after cap l ∙ is)

  -- a call without steps is answered alike
  no_steps_calm : IsHistory cap (effects_in H) → Rising 0 H → (n : ℕ) (c : Call T) → (limit : Option ℕ) → cap ≡ limit → has_steps limit c ≡ false → IsGlance c → (state_before cap H n).coming ≡ None
  no_steps_calm legal up n c None same none glance = none_uncapped legal up n same
  no_steps_calm legal up n Call.Capacity (Some k) same none glance = absurd glance
  no_steps_calm legal up n c (Some k) same none glance = cc

  -- a call without steps asks for no block
  needs_none : (c : Call T) (limit : Option ℕ) (x : Reply T) (Q : State T) → has_steps limit c ≡ false → Allows c x Q → IsRightAt Q c x
  needs_none c limit x Q none (inl right) = right
  needs_none (Call.Push v) None x Q none (inr lacks) = cc
  needs_none (Call.Push v) (Some k) x Q none (inr lacks) = cc
  needs_none (Call.ForcePush v) None x Q none (inr lacks) = cc
  needs_none (Call.ForcePush v) (Some k) x Q none (inr lacks) = cc
  needs_none c limit x Q none (inr lacks) = absurd lacks

  at_once_there : SettlesInto cap H S → IsHistory cap (effects_in H) → Rising 0 H → (y : ℕ × ℕ × Reply T) → RepliesAtOnce cap events skipped H y.0 y.1 y.2 → Answers y
  at_once_there settles legal up y once =
      let allowed = settles.right (y.0 + 1) once.call y.2 (inl once.right) (no_steps_calm legal up (y.0 + 1) once.call cap refl once.no_steps) in
      inl (inr (record { call = once.call; begins = once.begins; no_steps = once.no_steps; right = needs_none once.call cap y.2 (state_after cap S y.0) once.no_steps allowed }))

  answered_there : SettlesInto cap H S → Exact → IsHistory cap (effects_in H) → AllByRecursion Own H → Rising 0 H → (y : ℕ × ℕ × Reply T) → In y R → IsAnswer cap events skipped H R y → Answers y
  answered_there settles exact legal all up y has (inl ends) = ends_there settles exact all up y has ends
  answered_there settles exact legal all up y has (inr once) = at_once_there settles legal up y once

  -- a call that has not ended
  begun_there : SettlesInto cap H S → Exact → AllByRecursion Own H → Rising 0 H → (p : ℕ) (c : Calls p (length events)) → IsBegun c.call (own_effects p c.first (length events) H) → IsBegun c.call (own_effects p c.first (length events) S)
  begun_there settles exact all up p c begun =
      let ended : IsLastStep p (length events) = λ n d step past. absurd (let lt = slice_get_within events n (Step p step.0) step.1.0 in omega (arith, lt, past)) in
      let within : KeepsFronts (mine p c.first (length events)) H = closes_within exact p (length events) c ended 0 H (λ x here. here) up all in
      let done = settles.begun (mine p c.first (length events)) c.call begun.0 begun.1 within begun.2 in (begun.0, done.0, done.1)

pub displaces_at_once : {T A : Type 0} → SkippedIsExact T A → RunsDisplaceAtOnce T A
displaces_at_once {T} {A} exact cap parties events r conforms h =
    let skipped = r.skipped.items in let R = r.replies.items in let H : List (Entry T) = h.history in
    let up : Rising 0 H = rising H h.in_order in
    let settles : SettlesInto cap H (settle H) = histories_settle cap H h.legal h.in_order in
    let each = exact cap parties events r conforms in
    record {
      legal = settles.legal;
      effects = settles.effects;
      calm = λ n. settles.calm (n + 1);
      in_order = settles.in_order;
      left = settles.left;
      own = settle_within T cap parties events skipped R H 0 H (λ x here. here) up h.own;
      whole = each_with (IsAnswer cap events skipped H R) (IsWhole cap events skipped R H (settle H)) R (λ y has _. whole_there T cap parties events skipped R H settles each h.own up y has) h.answers;
      answers = each_with (IsAnswer cap events skipped H R) (λ y. IsAnswer cap events skipped (settle H) R y ⊎ IsGlanced cap events skipped H R y) R (answered_there T cap parties events skipped R H settles each h.legal h.own up) h.answers;
      unended = λ p c. begun_there T cap parties events skipped R H settles each h.own up p c (h.unended p c);
    }
