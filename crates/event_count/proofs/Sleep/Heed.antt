-- How many parties are on the way to sleep, and how many go to wake them.
use Rattle.std.proofs.Common.{◌≡◌, ◌⊎◌, inl, inr, ℕ, ◌+◌, ◌≤◌, ◌==◌, Bool, true, false, Some, List, count_by, slice_get, slice_set, arith, le_refl}
use Rattle.event_count.specs.declared.wakes.steps.{Phase.TheVariants.Prepared, Phase.TheVariants.Missed, Phase.TheVariants.Given, Phase.TheVariants.Taking, Phase.TheVariants.Moving, Phase.TheVariants.Waking, Whom.TheVariants.One, Whom.TheVariants.All}
use Rattle.event_count.specs.Sleep.{World.Party, World.Awake, World.is_asleep, Laws.is_woken, Laws.is_rousing}
use Rattle.event_count.proofs.Sleep.Counts.{one, count_set}

-- its ticket is what `EVENTS` is, so it may come to sleep
abbrev pub is_near : ℕ → Party → Bool
is_near e (Awake (Prepared t) m) = e == t
is_near e (Awake (Missed t) m) = e == t
is_near e other = false

-- it goes to sleep if `EVENTS` stays
abbrev pub is_parking : ℕ → Party → Bool
is_parking e (Awake (Missed t) m) = e == t
is_parking e other = false

-- it has given an item, and has not moved `EVENTS`
abbrev pub is_unmoved : Party → Bool
is_unmoved (Awake Given m) = true
is_unmoved (Awake (Taking n) m) = true
is_unmoved (Awake (Moving One) m) = true
is_unmoved other = false

abbrev pub is_moving : Party → Bool
is_moving (Awake (Moving One) m) = true
is_moving other = false

abbrev pub is_waking : Party → Bool
is_waking (Awake (Waking One) m) = true
is_waking other = false

-- it has taken all off `SLEEPERS`, and has not moved `EVENTS`
abbrev pub is_moving_all : Party → Bool
is_moving_all (Awake (Moving All) m) = true
is_moving_all other = false

pub moving_rouses : (p : Party) → one is_moving_all p ≤ one is_rousing p
moving_rouses (Awake (Moving All) m) = le_refl _
moving_rouses other = omega arith

-- how many parties are such
pub record Tally : Type 0 where
  pub asleep : ℕ
  pub near : ℕ
  pub parking : ℕ
  pub woken : ℕ
  pub unmoved : ℕ
  pub moving : ℕ
  pub waking : ℕ
  pub moving_all : ℕ
  pub rousing : ℕ

abbrev pub tally_of : ℕ → List Party → Tally
tally_of e ps = record {
  asleep = count_by is_asleep ps;
  near = count_by (is_near e) ps;
  parking = count_by (is_parking e) ps;
  woken = count_by is_woken ps;
  unmoved = count_by is_unmoved ps;
  moving = count_by is_moving ps;
  waking = count_by is_waking ps;
  moving_all = count_by is_moving_all ps;
  rousing = count_by is_rousing ps;
}

-- the tally of one party
abbrev pub part : ℕ → Party → Tally
part e p = record {
  asleep = one is_asleep p;
  near = one (is_near e) p;
  parking = one (is_parking e) p;
  woken = one is_woken p;
  unmoved = one is_unmoved p;
  moving = one is_moving p;
  waking = one is_waking p;
  moving_all = one is_moving_all p;
  rousing = one is_rousing p;
}

-- it is so, or there are some that make it so
abbrev pub Unless : ℕ → Type 0 → Type 0
Unless some P = (1 ≤ some) ⊎ P

pub unless : {P Q : Type 0} (a b : ℕ) → a ≤ b → (P → Q) → Unless a P → Unless b Q
unless a b le f h = elim h [ inl some ↦ inl (omega (arith, le, some)) | inr p ↦ inr (f p) ]

-- a notify is on the way to each party that sleeps or goes to sleep
pub record Covers (t : Tally) : Type 0 where
  pub all : Unless t.rousing (t.asleep + t.parking ≤ t.moving + t.waking)
  pub parking : Unless t.moving_all (t.parking ≤ t.moving)

-- what is kept of `SLEEPERS` and the items
pub record Heeds (sleepers items : ℕ) (t : Tally) : Type 0 where
  -- whoever sleeps or may come to sleep is counted, or a notify is on the way to it
  pub reached : Unless t.rousing (t.asleep + t.near ≤ sleepers + t.moving + t.waking)
  pub reached_near : Unless t.moving_all (t.near ≤ sleepers + t.moving)
  pub for_parking : 1 ≤ t.parking → (items ≤ t.unmoved) ⊎ Covers t
  pub for_asleep : 1 ≤ t.asleep → (items ≤ t.woken + t.unmoved + t.waking) ⊎ Covers t

-- v is t with q in the place of p
pub record Swaps (t v p q : Tally) : Type 0 where
  pub asleep : v.asleep + p.asleep ≡ t.asleep + q.asleep
  pub near : v.near + p.near ≡ t.near + q.near
  pub parking : v.parking + p.parking ≡ t.parking + q.parking
  pub woken : v.woken + p.woken ≡ t.woken + q.woken
  pub unmoved : v.unmoved + p.unmoved ≡ t.unmoved + q.unmoved
  pub moving : v.moving + p.moving ≡ t.moving + q.moving
  pub waking : v.waking + p.waking ≡ t.waking + q.waking
  pub moving_all : v.moving_all + p.moving_all ≡ t.moving_all + q.moving_all
  pub rousing : v.rousing + p.rousing ≡ t.rousing + q.rousing

pub swaps : (e : ℕ) (ps : List Party) (k : ℕ) (p q : Party) → slice_get ps k ≡ Some p → Swaps (tally_of e ps) (tally_of e (slice_set ps k q)) (part e p) (part e q)
swaps e ps k p q at = record {
  asleep = count_set is_asleep ps k p q at;
  near = count_set (is_near e) ps k p q at;
  parking = count_set (is_parking e) ps k p q at;
  woken = count_set is_woken ps k p q at;
  unmoved = count_set is_unmoved ps k p q at;
  moving = count_set is_moving ps k p q at;
  waking = count_set is_waking ps k p q at;
  moving_all = count_set is_moving_all ps k p q at;
  rousing = count_set is_rousing ps k p q at;
}

-- what is owed by who turns p into q, and changes the word and the items
pub record Owes (sleepers items sleepers' items' : ℕ) (p q : Tally) : Type 0 where
  pub reached : sleepers + p.moving + p.waking + q.asleep + q.near ≤ sleepers' + q.moving + q.waking + p.asleep + p.near
  pub reached_near : sleepers + p.moving + q.near ≤ sleepers' + q.moving + p.near
  pub all : q.asleep + q.parking + p.moving + p.waking ≤ q.moving + q.waking + p.asleep + p.parking
  pub parking : q.parking + p.moving ≤ q.moving + p.parking
  pub unmoved : items' + p.unmoved ≤ items + q.unmoved
  pub heeded : items' + p.woken + p.unmoved + p.waking ≤ items + q.woken + q.unmoved + q.waking
  pub no_parking : q.parking ≤ p.parking
  pub no_asleep : q.asleep ≤ p.asleep
  pub moving_all : p.moving_all ≤ q.moving_all
  pub rousing : p.rousing ≤ q.rousing

-- no fewer are such
pub no_fewer : (t v p q : ℕ) → v + p ≡ t + q → p ≤ q → t ≤ v
no_fewer t v p q e le = omega (arith, e, le)

covers_keeps : (t v p q : Tally) → Swaps t v p q → q.asleep + q.parking + p.moving + p.waking ≤ q.moving + q.waking + p.asleep + p.parking → q.parking + p.moving ≤ q.moving + p.parking
    → t.moving_all ≤ v.moving_all → t.rousing ≤ v.rousing → Covers t → Covers v
covers_keeps t v p q s a b more rouse c =
    let asleep = s.asleep in let parking = s.parking in let moving = s.moving in let waking = s.waking in
    record {
      all = unless t.rousing v.rousing rouse (λ all. (omega (arith, asleep, parking, moving, waking, a, all))) c.all;
      parking = unless t.moving_all v.moving_all more (λ few. (omega (arith, parking, moving, b, few))) c.parking;
    }

pub owes_keeps : (sleepers items sleepers' items' : ℕ) (t v p q : Tally) → Swaps t v p q → Owes sleepers items sleepers' items' p q → Heeds sleepers items t → Heeds sleepers' items' v
owes_keeps sleepers items sleepers' items' t v p q s o h =
    let asleep = s.asleep in let near = s.near in let parking = s.parking in let woken = s.woken in let unmoved = s.unmoved in let moving = s.moving in let waking = s.waking in
    let more = no_fewer t.moving_all v.moving_all p.moving_all q.moving_all s.moving_all o.moving_all in
    let rouse = no_fewer t.rousing v.rousing p.rousing q.rousing s.rousing o.rousing in
    let covers : Covers t → Covers v = covers_keeps t v p q s o.all o.parking more rouse in
    record {
      reached = (let a = o.reached in unless t.rousing v.rousing rouse (λ b. (omega (arith, asleep, near, moving, waking, a, b))) h.reached);
      reached_near = (let a = o.reached_near in unless t.moving_all v.moving_all more (λ b. (omega (arith, near, moving, a, b))) h.reached_near);
      for_parking = λ some.
          let a = o.no_parking in let was : 1 ≤ t.parking = omega (arith, parking, a, some) in
          elim (h.for_parking was) [ inl few ↦ inl (let b = o.unmoved in omega (arith, unmoved, b, few)) | inr c ↦ inr (covers c) ];
      for_asleep = λ some.
          let a = o.no_asleep in let was : 1 ≤ t.asleep = omega (arith, asleep, a, some) in
          elim (h.for_asleep was) [ inl few ↦ inl (let b = o.heeded in omega (arith, woken, unmoved, waking, b, few)) | inr c ↦ inr (covers c) ];
    }

-- nothing is owed where the two are alike
pub alike : (sleepers items : ℕ) (p : Tally) → Owes sleepers items sleepers items p p
alike sleepers items p = record { reached = omega arith; reached_near = omega arith; all = omega arith; parking = omega arith; unmoved = le_refl _; heeded = le_refl _; no_parking = le_refl _; no_asleep = le_refl _; moving_all = le_refl _; rousing = le_refl _ }

-- where no items are left, only `SLEEPERS` counts
pub empty_keeps : (sleepers items : ℕ) (t v p q : Tally) → items ≡ 0 → Swaps t v p q → p.moving + p.waking + q.asleep + q.near ≤ q.moving + q.waking + p.asleep + p.near → p.moving + q.near ≤ q.moving + p.near
    → p.moving_all ≤ q.moving_all → p.rousing ≤ q.rousing → Heeds sleepers items t → Heeds sleepers items v
empty_keeps sleepers items t v p q none s a b c d h =
    let asleep = s.asleep in let near = s.near in let moving = s.moving in let waking = s.waking in
    let more = no_fewer t.moving_all v.moving_all p.moving_all q.moving_all s.moving_all c in
    let rouse = no_fewer t.rousing v.rousing p.rousing q.rousing s.rousing d in
    record {
      reached = unless t.rousing v.rousing rouse (λ reached. (omega (arith, asleep, near, moving, waking, a, reached))) h.reached;
      reached_near = unless t.moving_all v.moving_all more (λ near_by. (omega (arith, near, moving, b, near_by))) h.reached_near;
      for_parking = λ some. inl (omega (arith, none));
      for_asleep = λ some. inl (omega (arith, none));
    }

-- one swap after another
abbrev pub both : Tally → Tally → Tally
both p q = record {
  asleep = p.asleep + q.asleep;
  near = p.near + q.near;
  parking = p.parking + q.parking;
  woken = p.woken + q.woken;
  unmoved = p.unmoved + q.unmoved;
  moving = p.moving + q.moving;
  waking = p.waking + q.waking;
  moving_all = p.moving_all + q.moving_all;
  rousing = p.rousing + q.rousing;
}

pub two_swaps : (t u v p q r s : Tally) → Swaps t u p q → Swaps u v r s → Swaps t v (both p r) (both q s)
two_swaps t u v p q r s a b = record {
  asleep = (let x = a.asleep in let y = b.asleep in omega (arith, x, y));
  near = (let x = a.near in let y = b.near in omega (arith, x, y));
  parking = (let x = a.parking in let y = b.parking in omega (arith, x, y));
  woken = (let x = a.woken in let y = b.woken in omega (arith, x, y));
  unmoved = (let x = a.unmoved in let y = b.unmoved in omega (arith, x, y));
  moving = (let x = a.moving in let y = b.moving in omega (arith, x, y));
  waking = (let x = a.waking in let y = b.waking in omega (arith, x, y));
  moving_all = (let x = a.moving_all in let y = b.moving_all in omega (arith, x, y));
  rousing = (let x = a.rousing in let y = b.rousing in omega (arith, x, y));
}
