-- What events make of an eventcount's numbers.
use Rattle.std.proofs.Common.{◌≡◌, ℕ, zero, suc, ◌+◌, ◌-◌, ◌≤◌, ◌==◌, Bool, true, false, if◌then◌else◌, Option, Some, None, List, [], ◌∷◌, count_by, slice_get, slice_set, refl, sym, ap, ◌∙◌, subst, arith}
use Rattle.std.proofs.lemmas.Bool.{ne_eqb}
use Rattle.event_count.specs.declared.wakes.steps.{Phase.Phase, Phase.TheVariants.Idle, Phase.TheVariants.Prepared, Phase.TheVariants.Missed, Phase.TheVariants.Returned, Whom.TheVariants.One, Whom.TheVariants.All, Word.Word as word}
use Rattle.event_count.specs.declared.wakes.steps.Step.{Step, TheVariants.Rest, TheVariants.Load, TheVariants.Add, TheVariants.Take, TheVariants.Clear, TheVariants.Park, TheVariants.Wake}
use Rattle.event_count.{specs.Sleep.Steps.low, specs.Sleep.Steps.step_of, specs.Sleep.Steps.looked_of, proofs.Sleep.Telling.acts_keeps}
use Rattle.event_count.specs.Sleep.World.{Party, Awake, Asleep, World, Steps, Rises, Prepares, Looks, Leaves, Gives, Tells, is_asleep, put, goes_on, counts_late, wakes_one, takes, ticket_of, rises, looks, leaves, prepares, gives, tells, acts, happens, run}
use Rattle.law_channel.specs.Machine.{is_free, may_try, IsAt}
use Rattle.law_channel.proofs.Marks.{Marked, happens_marked, set_marked, looks_on}

-- the items and the times are the same
abbrev pub Same : World → World → Type 0
Same w v = (v.items ≡ w.items) × (v.times ≡ w.times)

same_if : (w u v : World) (b : Bool) → Same w u → Same w v → Same w (if b then u else v)
same_if w u v true a b = a
same_if w u v false a b = b

wakes_same : (w : World) (k m j : ℕ) (p : Phase) (o : Option Party) → Same w (wakes_one w k p m j o)
wakes_same w k m j p (Some (Asleep t parked mark)) = (refl, refl)
wakes_same w k m j p (Some (Awake q mark)) = same_if w (goes_on w k p m 0) w (count_by is_asleep w.parties == 0) (refl, refl) (refl, refl)
wakes_same w k m j p None = same_if w (goes_on w k p m 0) w (count_by is_asleep w.parties == 0) (refl, refl) (refl, refl)

takes_same : (w : World) (k m j : ℕ) (p : Phase) (s : Step) → Same w (takes w k p m j s)
takes_same w k m j p Rest = (refl, refl)
takes_same w k m j p (Load x) = (refl, refl)
takes_same w k m j p (Add word.Events) = (refl, refl)
takes_same w k m j p (Add word.Sleepers) = (refl, refl)
takes_same w k m j p (Take n) = (refl, refl)
takes_same w k m j p Clear = (refl, refl)
takes_same w k m j p (Park n) = same_if w (put (counts_late w (ticket_of p)) k (Asleep (ticket_of p) w.events m)) (goes_on w k p m 0) (low w.events == n) (refl, refl) (refl, refl)
takes_same w k m j p (Wake One) = wakes_same w k m j p (slice_get w.parties j)
takes_same w k m j p (Wake All) = (refl, refl)

rises_same : (w : World) (k : ℕ) (o : Option Party) → Same w (rises w k o)
rises_same w k (Some (Asleep t parked m)) = (refl, refl)
rises_same w k (Some (Awake p m)) = (refl, refl)
rises_same w k None = (refl, refl)

prepares_same : (w : World) (k m : ℕ) (p : Phase) → Same w (prepares w k m p)
prepares_same w k m Idle = (refl, refl)
prepares_same w k m other = (refl, refl)

leaves_same : (w : World) (k m : ℕ) (p : Phase) → Same w (leaves w k m p)
leaves_same w k m (Prepared t) = (refl, refl)
leaves_same w k m other = (refl, refl)

-- a look where there is nothing
looks_same : (w : World) (k : ℕ) (p : Phase) (s : Step) → w.items ≡ 0 → Same w (looks w k p s)
looks_same w k p Rest none = same_if w (put w k (Awake (looked_of p false) w.times)) (put (record w { items = w.items - 1 }) k (Awake (looked_of p true) w.times)) (w.items == 0) (refl, refl) (omega (arith, none), refl)
looks_same w k p other none = (refl, refl)

times_if : (b : Bool) (u v : World) (n : ℕ) → u.times ≡ n → v.times ≡ n → (if b then u else v).times ≡ n
times_if true u v n a c = a
times_if false u v n a c = c

looks_times : (w : World) (k : ℕ) (p : Phase) (s : Step) → (looks w k p s).times ≡ w.times
looks_times w k p Rest =
    times_if (w.items == 0) (put w k (Awake (looked_of p false) w.times)) (put (record w { items = w.items - 1 }) k (Awake (looked_of p true) w.times)) w.times refl refl
looks_times w k p other = refl

-- so much more, so much less, and how often all were told
pub record Became (P : ℕ → Type 0) (E : Type 0) (w v : World) (more less told : ℕ) : Type 0 where
  pub items : v.items + less ≡ w.items + more
  pub times : v.times ≡ w.times + told
  pub marked : Marked P E v.parties

module _ (P : ℕ → Type 0) (E : Type 0) (w : World) (k : ℕ) (h : Marked P E w.parties) where
  same_became : (v : World) → Same w v → Marked P E v.parties → Became P E w v 0 0 0
  same_became v same marked = let items = same.0 in let times = same.1 in record { items = omega (arith, items); times = omega (arith, times); marked = marked }

  pub stays : Became P E w w 0 0 0
  stays = record { items = refl; times = omega arith; marked = h }

  pub steps : (j : ℕ) → Became P E w (happens w (Steps k j)) 0 0 0
  steps j = same_became (happens w (Steps k j)) (acts_keeps (Same w) w (λ p m. takes w k p m j (step_of p)) (slice_get w.parties k) (λ p m at. takes_same w k m j p (step_of p)) (refl, refl)) (happens_marked P E w (Steps k j) tt h)

  pub rises_up : Became P E w (happens w (Rises k)) 0 0 0
  rises_up = same_became (happens w (Rises k)) (rises_same w k (slice_get w.parties k)) (happens_marked P E w (Rises k) tt h)

  pub prepares_it : Became P E w (happens w (Prepares k)) 0 0 0
  prepares_it = same_became (happens w (Prepares k)) (acts_keeps (Same w) w (λ p m. prepares w k m p) (slice_get w.parties k) (λ p m at. prepares_same w k m p) (refl, refl)) (happens_marked P E w (Prepares k) tt h)

  left : Same w (happens w (Leaves k))
  left = acts_keeps (Same w) w (λ p m. leaves w k m p) (slice_get w.parties k) (λ p m at. leaves_same w k m p) (refl, refl)

  pub leaves_it : Became P E w (happens w (Leaves k)) 0 0 0
  leaves_it = same_became (happens w (Leaves k)) left (happens_marked P E w (Leaves k) tt h)

  -- it looks where there is nothing
  pub fails : w.items ≡ 0 → P w.times → Became P E w (happens w (Looks k)) 0 0 0
  fails none may = same_became (happens w (Looks k)) (acts_keeps (Same w) w (λ p m. looks w k p (step_of p)) (slice_get w.parties k) (λ p m at. looks_same w k p (step_of p) none) (refl, refl)) (happens_marked P E w (Looks k) may h)

  -- it gives, or tells, between two calls
  pub idle_gives : (m : ℕ) → slice_get w.parties k ≡ Some (Awake Idle m) → Became P E w (happens w (Gives k)) 1 0 0
  idle_gives m at = let e = ap (acts w (λ p m. gives w k m p)) at in record {
    items = (let items : (happens w (Gives k)).items ≡ w.items + 1 = ap (λ v. v.items) e in omega (arith, items));
    times = (let times : (happens w (Gives k)).times ≡ w.times = ap (λ v. v.times) e in omega (arith, times));
    marked = happens_marked P E w (Gives k) tt h;
  }

  pub idle_tells : (m : ℕ) → E → slice_get w.parties k ≡ Some (Awake Idle m) → Became P E w (happens w (Tells k)) 0 0 1
  idle_tells m ended at = let e = ap (acts w (λ p m. tells w k m p)) at in record {
    items = (let items : (happens w (Tells k)).items ≡ w.items = ap (λ v. v.items) e in omega (arith, items));
    times = ap (λ v. v.times) e;
    marked = happens_marked P E w (Tells k) ended h;
  }

pub set_here : {X : Type 0} (xs : List X) (k : ℕ) (x y : X) → slice_get xs k ≡ Some x → slice_get (slice_set xs k y) k ≡ Some y
set_here [] k x y at = absurd (cc)
set_here (z ∷ xs) zero x y at = refl
set_here (z ∷ xs) (suc k) x y at = set_here xs k x y at

-- who gives its ticket up is between two calls
freed : (w : World) (k : ℕ) (p : Party) → slice_get w.parties k ≡ Some p → is_free p ≡ true → (m : ℕ) × (slice_get (happens w (Leaves k)).parties k ≡ Some (Awake Idle m))
freed w k (Awake Idle m) at is = (m, ap (λ (v : World). slice_get v.parties k) (ap (acts w (λ p m. leaves w k m p)) at) ∙ at)
freed w k (Awake (Prepared t) m) at is = (m, ap (λ (v : World). slice_get v.parties k) (ap (acts w (λ p m. leaves w k m p)) at) ∙ set_here w.parties k (Awake (Prepared t) m) (Awake Idle m) at)
freed w k other at is = absurd (cc)

-- who looks and finds something takes it, and is between two calls
found : (w : World) (k : ℕ) (p : Party) → slice_get w.parties k ≡ Some p → may_try p ≡ true → 1 ≤ w.items → happens w (Looks k) ≡ put (record w { items = w.items - 1 }) k (Awake Idle w.times)
found w k (Awake Idle m) at is some =
    ap (acts w (λ p m. looks w k p (step_of p))) at
    ∙ ap (λ (b : Bool). if b then put w k (Awake Idle w.times) else put (record w { items = w.items - 1 }) k (Awake Idle w.times)) (ne_eqb w.items 0 (λ none. omega (arith, some, none)))
found w k (Awake (Prepared t) m) at is some =
    ap (acts w (λ p m. looks w k p (step_of p))) at
    ∙ ap (λ (b : Bool). if b then put w k (Awake (Missed t) w.times) else put (record w { items = w.items - 1 }) k (Awake Idle w.times)) (ne_eqb w.items 0 (λ none. omega (arith, some, none)))
found w k (Awake Returned m) at is some =
    ap (acts w (λ p m. looks w k p (step_of p))) at
    ∙ ap (λ (b : Bool). if b then put w k (Awake Idle w.times) else put (record w { items = w.items - 1 }) k (Awake Idle w.times)) (ne_eqb w.items 0 (λ none. omega (arith, some, none)))
found w k other at is some = absurd (cc)

-- it holds no ticket
abbrev unprepared : Option Party → Bool
unprepared (Some (Awake (Prepared t) m)) = false
unprepared other = true

left_unprepared : (w : World) (k : ℕ) (o : Option Party) → slice_get w.parties k ≡ o → unprepared (slice_get (happens w (Leaves k)).parties k) ≡ true
left_unprepared w k (Some (Awake (Prepared t) m)) at =
    ap unprepared (ap (λ (v : World). slice_get v.parties k) (ap (acts w (λ p m. leaves w k m p)) at) ∙ set_here w.parties k (Awake (Prepared t) m) (Awake Idle m) at)
left_unprepared w k other at = ap unprepared (ap (λ (v : World). slice_get v.parties k) (ap (acts w (λ p m. leaves w k m p)) at) ∙ at)

calm : (P : ℕ → Type 0) (E : Type 0) (w : World) (k : ℕ) (o : Option Party) → unprepared o ≡ true → Marked P E w.parties → Marked P E (acts w (λ p m. looks w k p (step_of p)) o).parties
calm P E w k (Some (Awake Idle m)) is h = looks_on P E w k m h (w.items == 0) Idle Idle tt tt
calm P E w k (Some (Awake (Prepared t) m)) is h = absurd (cc)
calm P E w k (Some (Awake Returned m)) is h = looks_on P E w k m h (w.items == 0) Idle Idle tt tt
calm P E w k other is h = h

module _ (P : ℕ → Type 0) (E : Type 0) (w : World) (k : ℕ) (h : Marked P E w.parties) where
  pub free_gives : IsAt is_free w k → Became P E w (run (Leaves k ∷ Gives k ∷ []) w) 1 0 0
  free_gives free =
      let u = happens w (Leaves k) in let l = leaves_it P E w k h in let idle = freed w k free.0 free.1 free.2 in let g = idle_gives P E u k l.marked idle.0 idle.1 in
      record {
        items = (let a = l.items in let b = g.items in omega (arith, a, b));
        times = (let a = l.times in let b = g.times in omega (arith, a, b));
        marked = g.marked;
      }

  pub free_tells : E → IsAt is_free w k → Became P E w (run (Leaves k ∷ Tells k ∷ []) w) 0 0 1
  free_tells ended free =
      let u = happens w (Leaves k) in let l = leaves_it P E w k h in let idle = freed w k free.0 free.1 free.2 in let g = idle_tells P E u k l.marked idle.0 ended idle.1 in
      record {
        items = (let a = l.items in let b = g.items in omega (arith, a, b));
        times = (let a = l.times in let b = g.times in omega (arith, a, b));
        marked = g.marked;
      }

  pub tries_it : 1 ≤ w.items → IsAt may_try w k → Became P E w (happens w (Looks k)) 0 1 0
  tries_it some may = let e = found w k may.0 may.1 may.2 some in record {
    items = (let items : (happens w (Looks k)).items ≡ w.items - 1 = ap (λ v. v.items) e in omega (arith, items, some));
    times = (let times : (happens w (Looks k)).times ≡ w.times = ap (λ v. v.times) e in omega (arith, times));
    marked = subst (λ (v : World). Marked P E v.parties) (sym e) (set_marked P E w.parties k (Awake Idle w.times) tt h);
  }

  pub tries_and_gives : 1 ≤ w.items → IsAt may_try w k → Became P E w (run (Looks k ∷ Gives k ∷ []) w) 0 0 0
  tries_and_gives some may =
      let u = happens w (Looks k) in let l = tries_it some may in
      let idle : slice_get u.parties k ≡ Some (Awake Idle w.times) = ap (λ (v : World). slice_get v.parties k) (found w k may.0 may.1 may.2 some) ∙ set_here w.parties k may.0 (Awake Idle w.times) may.1 in
      let g = idle_gives P E u k l.marked w.times idle in
      record {
        items = (let a = l.items in let b = g.items in omega (arith, a, b));
        times = (let a = l.times in let b = g.times in omega (arith, a, b));
        marked = g.marked;
      }

  -- it gives its ticket up, and looks without one
  pub ends_marked : Marked P E (run (Leaves k ∷ Looks k ∷ []) w).parties
  ends_marked = let u = happens w (Leaves k) in let l = leaves_it P E w k h in calm P E u k (slice_get u.parties k) (left_unprepared w k (slice_get w.parties k) refl) l.marked

  pub ends_times : (run (Leaves k ∷ Looks k ∷ []) w).times ≡ w.times
  ends_times =
      let u = happens w (Leaves k) in let l = leaves_it P E w k h in
      let looked : (happens u (Looks k)).times ≡ u.times = acts_keeps (λ v. v.times ≡ u.times) u (λ p m. looks u k p (step_of p)) (slice_get u.parties k) (λ p m at. looks_times u k p (step_of p)) refl in
      let a = l.times in omega (arith, looked, a)

  pub ends_it : w.items ≡ 0 → Became P E w (run (Leaves k ∷ Looks k ∷ []) w) 0 0 0
  ends_it none =
      let u = happens w (Leaves k) in let l = leaves_it P E w k h in let a = l.items in
      let still : u.items ≡ 0 = omega (arith, a, none) in
      let looked : Same u (happens u (Looks k)) = acts_keeps (Same u) u (λ p m. looks u k p (step_of p)) (slice_get u.parties k) (λ p m at. looks_same u k p (step_of p) still) (refl, refl) in
      record {
        items = (let b = looked.0 in omega (arith, a, b));
        times = (let b = ends_times in omega (arith, b));
        marked = ends_marked;
      }
