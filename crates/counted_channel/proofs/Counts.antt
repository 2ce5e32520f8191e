-- Each step on a channel's words keeps their rule.
use Rattle.std.proofs.Common.{◌≡◌, ◌⊎◌, ℕ, zero, suc, ◌+◌, ◌-◌, ◌*◌, ◌%◌, ◌^◌, ◌<◌, ◌≤◌, List, [], ◌∷◌, ◌++◌, set, slice_index, slice_set, refl, ap, sym, ◌∙◌, subst, inl, inr, ⊎_elim, arith, mod-eq_of_lt}
use mathlib.Core.{Logic.dite, Option.none, Option.some, Option.some-injective, Option.some-ne-none}
use lib.ListN.{get_elem?}
use native.Mathlib.{Decide.dec_le, Nat.add-mod_right}
use Rattle.atomic_table.specs.Table.{Act, keeps, step, stepped, carried_after, Valid, Allows, Splits, Joins}
use Rattle.queue_steps.specs.Shares.{Share, entire, nothing, half, plus, IsEntire, IsPart, IsSome, weight}
use Rattle.queue_steps.proofs.ShareLaws.{part_weight, weight_halves, weight_none}
use Rattle.counted_channel.specs.declared.counting.{Side.Side, SeatCounts.SeatCounts, TheConstants.MAX_ENDS}
use Rattle.counted_channel.specs.Counting.{side, nobody, both, at_side, side_at, stake_at, halved, two_seats, both_sides, first_sender, first_receiver, SideKept, Table, Seated, IsCounted, IsEndSeat, Added, Subtracted}
use Rattle.counted_channel.proofs.OneSide.{total_at, ends, extra, stake, heft, changes, stays, divides, unites, few, alone}

up : (n : ℕ) → n ≤ 2 * MAX_ENDS → (n + 1) % 2 ^ 64 ≡ n + 1
up n low = mod-eq_of_lt (let g : n + 1 < 2 ^ 64 = omega arith in g)

down : (n : ℕ) → 0 < n → n ≤ 2 * MAX_ENDS → (n + (2 ^ 64 - 1)) % 2 ^ 64 ≡ n - 1
down n pos low = ap (λ (z : ℕ). z % 2 ^ 64) (let e : n + (2 ^ 64 - 1) ≡ n - 1 + 2 ^ 64 = omega arith in e) ∙ (add-mod_right (n - 1) (2 ^ 64) ∙ mod-eq_of_lt (let g : n - 1 < 2 ^ 64 = omega arith in g))

-- the word of a side
abbrev word_at : ℕ → Table → ℕ
word_at i s = slice_index s.words i

-- the table with another word, and another view at a seat
abbrev moved : Table → ℕ → ℕ → ℕ → SeatCounts → Table
moved s i m id w = record { words = slice_set s.words i m; homes = s.homes; views = slice_set s.views id w }

same_side : (i : ℕ) (x : Side) → side_at i (at_side i x) ≡ x
same_side zero x = refl
same_side (suc i) x = refl

kept_at : (s : Table) → IsCounted s → (i : ℕ) → i < 2 → SideKept (side_at i) (word_at i s) s.views
kept_at s c zero lt = subst (λ n. SideKept (side_at 0) n s.views) (sym (ap (λ ws. slice_index ws 0) c.words)) c.senders
kept_at s c (suc zero) lt = subst (λ n. SideKept (side_at 1) n s.views) (sym (ap (λ ws. slice_index ws 1) c.words)) c.receivers
kept_at s c (suc (suc i)) lt = absurd (omega (arith, lt))

-- where a seat of one side goes on to know something else of it, the other side's word is still right
placed : (s : Table) → IsCounted s → (i m id : ℕ) (v : SeatCounts) (x y : Side) → i < 2 → get_elem? s.views id ≡ some v → v ≡ at_side i x → SideKept (side_at i) m (slice_set s.views id (at_side i y))
    → IsCounted (moved s i m id (at_side i y))
placed s c zero m id v x y lt at is kept = record {
  sent = m;
  received = c.received;
  words = ap (λ ws. slice_set ws 0 m) c.words;
  senders = kept;
  receivers = stays (λ u. u.receivers) c.received id s.views v (at_side 0 y) c.receivers at (ap (λ u. u.receivers) (sym is));
}
placed s c (suc zero) m id v x y lt at is kept = record {
  sent = c.sent;
  received = m;
  words = ap (λ ws. slice_set ws 1 m) c.words;
  senders = stays (λ u. u.senders) c.sent id s.views v (at_side 1 y) c.senders at (ap (λ u. u.senders) (sym is));
  receivers = kept;
}
placed s c (suc (suc i)) m id v x y lt at is kept = absurd (omega (arith, lt))

-- a step on the word of a seat that counts
turns : (s : Table) → IsCounted s → (i m id : ℕ) (v : SeatCounts) (x y : Side) → i < 2 → get_elem? s.views id ≡ some v → v ≡ at_side i x → y.extra ≤ y.ends → m + x.ends + x.extra ≡ word_at i s + y.ends + y.extra
    → y.ends ≤ x.ends ⊎ (word_at i s < MAX_ENDS) × (y.ends ≤ x.ends + 1) → (0 < y.ends → 0 < x.ends) → y.stake ≡ x.stake → IsCounted (moved s i m id (at_side i y))
turns s c i m id v x y lt at is more sum low on same =
    let was : side_at i v ≡ x = ap (side_at i) is ∙ same_side i x in
    let now : side_at i (at_side i y) ≡ y = same_side i y in
    let P : Side → Side → Type 0 =
    λ p q.
    (q.extra ≤ q.ends) × (m + p.ends + p.extra ≡ word_at i s + q.ends + q.extra) × (q.ends ≤ p.ends ⊎ (word_at i s < MAX_ENDS) × (q.ends ≤ p.ends + 1)) × (0 < q.ends → 0 < p.ends) × (q.stake ≡ p.stake) in
    let at_them : P (side_at i v) (side_at i (at_side i y)) = subst (λ p. P p (side_at i (at_side i y))) (sym was) (subst (P x) (sym now) (more, sum, low, on, same)) in
    placed s c i m id v x y lt at is
    (changes (side_at i) (word_at i s) m id s.views v (at_side i y) (kept_at s c i lt) at at_them.0 at_them.1 at_them.2 at_them.3 at_them.4)

-- what the word is where a seat counts so
one_there : (s : Table) → IsCounted s → (i id : ℕ) (v : SeatCounts) (x : Side) → i < 2 → get_elem? s.views id ≡ some v → v ≡ at_side i x
    → (word_at i s ≤ 2 * MAX_ENDS) × (x.ends + x.extra ≤ word_at i s) × (IsEntire x.stake → word_at i s ≡ x.ends + x.extra) × IsPart x.stake
one_there s c i id v x lt at is =
    let was : side_at i v ≡ x = ap (side_at i) is ∙ same_side i x in
    let k = kept_at s c i lt in
    let e = total_at (ends (side_at i)) s.views id v at in let f = total_at (extra (side_at i)) s.views id v at in
    let own = total_at (heft (side_at i) k.depth) s.views id v at in let most = k.one in
    let part : IsPart (stake (side_at i) v) = part_weight k.depth (stake (side_at i) v) (k.shallow id v at) (omega (arith, own, most)) in
    subst (λ (p : Side). (word_at i s ≤ 2 * MAX_ENDS) × (p.ends + p.extra ≤ word_at i s) × (IsEntire p.stake → word_at i s ≡ p.ends + p.extra) × IsPart p.stake) was
    (few (side_at i) (word_at i s) s.views k, omega (arith, e, f, k.counted), alone (side_at i) (word_at i s) id s.views v k at, part)

-- two descriptions of one seat
same_sides : (i : ℕ) (v : SeatCounts) (x y : Side) → v ≡ at_side i x → v ≡ at_side i y → x ≡ y
same_sides i v x y a b = sym (same_side i x) ∙ (ap (side_at i) (sym a ∙ b) ∙ same_side i y)

pub adds : (slots id : ℕ) (m : Seated) (i : ℕ) → i < 2 → IsEndSeat i m → Allows IsCounted slots id m i (λ n. (n + 1) % 2 ^ 64) (Added (step slots i 1 0 none) m)
adds slots id m i lt is s c _ at _ =
    let n : ℕ = word_at i s in let t : Share = stake_at i m.0 in let x : Side = side 1 0 t in
    let me : m.0 ≡ at_side i x = ap (λ z. z.0) is in
    let there = one_there s c i id m.0 x lt at me in
    let raised = up n there.0 in
    dite (dec_le MAX_ENDS n)
    (λ high. let y : Side = side 1 1 t in (
      at_side i y,
      keeps,
      tt,
      subst (λ (z : ℕ). IsCounted (moved s i z id (at_side i y))) (sym raised) (turns s c i (n + 1) id m.0 x y lt at me (omega arith) (omega arith) (inl (omega arith)) (λ _. omega arith) refl),
      (refl, (λ less. absurd (omega arith)), λ _. refl),
    ))
    (λ room. let y : Side = side 2 0 t in let few : n < MAX_ENDS = omega arith in (
      at_side i y,
      keeps,
      tt,
      subst (λ (z : ℕ). IsCounted (moved s i z id (at_side i y))) (sym raised) (turns s c i (n + 1) id m.0 x y lt at me (omega arith) (omega arith) (inr (few, omega arith)) (λ _. omega arith) refl),
      (refl, (λ _. refl), λ high. absurd (room high)),
    ))

-- the word of a seat that counts for two, or was counted in vain, is lowered
pub withdraws : (slots id : ℕ) (m : Seated) (i : ℕ) (t : Share) → i < 2 → (m.0 ≡ at_side i (side 1 1 t)) ⊎ (m.0 ≡ at_side i (side 2 0 t))
    → Allows IsCounted slots id m i (λ n. (n + (2 ^ 64 - 1)) % 2 ^ 64) (Subtracted (step slots i 1 0 none) m)
withdraws slots id m i t lt either s c _ at _ = ⊎_elim (λ me. lowers (side 1 1 t) me refl (omega arith) refl) (λ me. lowers (side 2 0 t) me refl (omega arith) refl) either
  where
    only : (r : Share) → (m.0 ≡ at_side i (side 1 1 r)) ⊎ (m.0 ≡ at_side i (side 2 0 r)) → (x : Side) → m.0 ≡ at_side i x → x.stake ≡ t → r ≡ t
    only r other x me same = ⊎_elim (λ o. ap (λ z. z.stake) (same_sides i m.0 (side 1 1 r) x o me) ∙ same) (λ o. ap (λ z. z.stake) (same_sides i m.0 (side 2 0 r) x o me) ∙ same) other

    lowers : (x : Side) → m.0 ≡ at_side i x → x.ends + x.extra ≡ 2 → 0 < x.ends → x.stake ≡ t
        → (w : SeatCounts) × (a : Act (Unit {0})) × Valid s.homes m.1 a × IsCounted (stepped s i ((slice_index s.words i + (2 ^ 64 - 1)) % 2 ^ 64) id m.1 w a)
        × Subtracted (step slots i 1 0 none) m (slice_index s.words i) (w, carried_after m.1 a)
    lowers x me two pos same =
        let there = one_there s c i id m.0 x lt at me in
        let least : 2 ≤ slice_index s.words i = let l = there.1 in omega (arith, l, two) in
        let lowered = down (slice_index s.words i) (omega (arith, least)) there.0 in (
          at_side i (side 1 0 t),
          keeps,
          tt,
          subst (λ (z : ℕ). IsCounted (moved s i z id (at_side i (side 1 0 t)))) (sym lowered)
              (turns s c i (slice_index s.words i - 1) id m.0 x (side 1 0 t) lt at me (omega arith) (omega (arith, least, two)) (inl (omega (arith, pos))) (λ _. pos) (sym same)),
          (
            refl,
            (λ r other. ap (λ (z : Share). at_side i (side 1 0 z)) (sym (only r other x me same))),
            (λ r other. let b = same_sides i m.0 (side 1 0 r) x other me in let e = ap (λ z. z.ends) b in let f = ap (λ z. z.extra) b in absurd (omega (arith, e, f, two))),
            λ r other. subst (λ (z : Share). IsPart z) (sym (ap (λ z. z.stake) (same_sides i m.0 (side 2 0 r) x other me))) there.3,
          ),
        )

-- the seat of an end that is no more lowers its word
pub leaves : (slots id : ℕ) (m : Seated) (i : ℕ) → i < 2 → IsEndSeat i m → Allows IsCounted slots id m i (λ n. (n + (2 ^ 64 - 1)) % 2 ^ 64) (Subtracted (step slots i 1 0 none) m)
leaves slots id m i lt is s c _ at _ =
    let n : ℕ = word_at i s in let t : Share = stake_at i m.0 in let x : Side = side 1 0 t in let y : Side = side 0 0 t in
    let me : m.0 ≡ at_side i x = ap (λ z. z.0) is in
    let there = one_there s c i id m.0 x lt at me in let one : 1 ≤ n = there.1 in
    let lowered = down n (omega (arith, one)) there.0 in (
      at_side i y,
      keeps,
      tt,
      subst (λ (z : ℕ). IsCounted (moved s i z id (at_side i y))) (sym lowered) (turns s c i (n - 1) id m.0 x y lt at me (omega arith) (omega (arith, one)) (inl (omega arith)) (λ pos. absurd (omega (arith, pos))) refl),
      (
        refl,
        (λ r other. absurd (⊎_elim (λ o. let e = ap (λ z. z.extra) (same_sides i m.0 (side 1 1 r) x o me) in omega (arith, e)) (λ o. let e = ap (λ z. z.ends) (same_sides i m.0 (side 2 0 r) x o me) in omega (arith, e)) other)),
        (λ r other all. there.2 (subst (λ (z : Share). IsEntire z) (ap (λ z. z.stake) (same_sides i m.0 (side 1 0 r) x other me)) all)),
        λ r other. let e = ap (λ z. z.ends) (same_sides i m.0 (side 2 0 r) x other me) in absurd (omega (arith, e)),
      ),
    )

-- the seat of two ends of a side becomes two
halves_light : (t : Share) (d : ℕ) → t.1 ≤ d → ((half t).1 ≤ d + 1) × ((half t).1 ≤ d + 1) × (weight (d + 1) (half t) + weight (d + 1) (half t) ≤ weight (d + 1) t)
halves_light t d low = (omega (arith, low), omega (arith, low), let e = weight_halves (d + 1) t (omega (arith, low)) in omega (arith, e))

splits_side : (of : SeatCounts → Side) (n id : ℕ) (vs : List SeatCounts) (v l : SeatCounts) (t : Share) → SideKept of n vs → get_elem? vs id ≡ some v → of v ≡ side 2 0 t → of l ≡ side 1 0 (half t) → SideKept of n (set vs id l ++ l ∷ [])
splits_side of n id vs v l t k at was now =
    let ev : ends of v ≡ 2 = ap (λ z. z.ends) was in let xv : extra of v ≡ 0 = ap (λ z. z.extra) was in let el : ends of l ≡ 1 = ap (λ z. z.ends) now in let xl : extra of l ≡ 0 = ap (λ z. z.extra) now in
    let sv : t ≡ stake of v = sym (ap (λ z. z.stake) was) in let sl : half t ≡ stake of l = sym (ap (λ z. z.stake) now) in
    let rich : IsSome (stake of v) → IsSome (stake of l) = λ much. subst (λ (z : Share). IsSome z) sl (subst (λ (z : Share). IsSome z) (sym sv) much) in
    divides of n id vs v l l k at (omega (arith, ev, el)) (omega (arith, xv, xl)) (omega (arith, el, xl)) (omega (arith, el, xl)) (λ _. rich) (λ _. rich)
    (subst (λ (a : Share). (d : ℕ) → a.1 ≤ d → ((stake of l).1 ≤ d + 1) × ((stake of l).1 ≤ d + 1) × (heft of (d + 1) l + heft of (d + 1) l ≤ weight (d + 1) a)) sv
    (subst (λ (b : Share). (d : ℕ) → t.1 ≤ d → (b.1 ≤ d + 1) × (b.1 ≤ d + 1) × (weight (d + 1) b + weight (d + 1) b ≤ weight (d + 1) t)) sl (halves_light t)))

-- what a seat counts for is parted into two
abbrev IsPartedSide : Side → Side → Side → Type 0
IsPartedSide a p q =
    (p.ends + q.ends ≡ a.ends) × (p.extra + q.extra ≡ a.extra) × (p.extra ≤ p.ends) × (q.extra ≤ q.ends) × (0 < p.ends → IsSome a.stake → IsSome p.stake) × (0 < q.ends → IsSome a.stake → IsSome q.stake)
    × ((d : ℕ) → a.stake.1 ≤ d → (p.stake.1 ≤ d + 1) × (q.stake.1 ≤ d + 1) × (weight (d + 1) p.stake + weight (d + 1) q.stake ≤ weight (d + 1) a.stake))

zero_weight : (d : ℕ) → weight d nothing ≡ 0
zero_weight d = weight_none d nothing refl

left_all : (a : Side) → a.extra ≤ a.ends → IsPartedSide a a nobody
left_all a fits = (
  omega arith,
  omega arith,
  fits,
  omega arith,
  (λ _ much. much),
  (λ pos. absurd (omega (arith, pos))),
  λ d low. (omega (arith, low), omega arith, let z = zero_weight (d + 1) in omega (arith, z)),
)

right_all : (a : Side) → a.extra ≤ a.ends → IsPartedSide a nobody a
right_all a fits = (
  omega arith,
  omega arith,
  omega arith,
  fits,
  (λ pos. absurd (omega (arith, pos))),
  (λ _ much. much),
  λ d low. (omega arith, omega (arith, low), let z = zero_weight (d + 1) in omega (arith, z)),
)

-- where one of the two takes all, and the other nothing
gives_side : (of : SeatCounts → Side) (n id : ℕ) (vs : List SeatCounts) (v l r : SeatCounts) → SideKept of n vs → get_elem? vs id ≡ some v → (of l ≡ of v) × (of r ≡ nobody) ⊎ (of l ≡ nobody) × (of r ≡ of v) → SideKept of n (set vs id l ++ r ∷ [])
gives_side of n id vs v l r k at which =
    let fits = k.extra id v at in
    let parted : IsPartedSide (of v) (of l) (of r) =
    ⊎_elim (λ (t : (of l ≡ of v) × (of r ≡ nobody)). subst (λ (p : Side × Side). IsPartedSide (of v) p.0 p.1) (λ i. (sym t.0 i, sym t.1 i)) (left_all (of v) fits))
    (λ (t : (of l ≡ nobody) × (of r ≡ of v)). subst (λ (p : Side × Side). IsPartedSide (of v) p.0 p.1) (λ i. (sym t.0 i, sym t.1 i)) (right_all (of v) fits)) which in
    divides of n id vs v l r k at parted.0 parted.1 parted.2 parted.3 parted.4 parted.5 parted.6

halves_at : (i : ℕ) (t : Share) → halved (at_side i (side 2 0 t)) ≡ at_side i (side 1 0 (half t))
halves_at zero t = refl
halves_at (suc i) t = refl

-- what a seat of two ends is parted into
pub halves : (i : ℕ) (v : SeatCounts) (t : Share) → v ≡ at_side i (side 2 0 t) → halved v ≡ at_side i (side 1 0 (half t))
halves i v t is = ap halved is ∙ halves_at i t

pub splits : (id : ℕ) (v : SeatCounts) (i : ℕ) (t : Share) → i < 2 → v ≡ at_side i (side 2 0 t) → Splits IsCounted id v (halved v) (halved v)
splits id v zero t lt is s c at =
    let now = halves 0 v t is in
    record {
      sent = c.sent;
      received = c.received;
      words = c.words;
      senders = splits_side (λ u. u.senders) c.sent id s.views v (halved v) t c.senders at (ap (λ z. z.senders) is) (ap (λ z. z.senders) now);
      receivers =
          gives_side (λ u. u.receivers) c.received id s.views v (halved v) (halved v) c.receivers at (inl (ap (λ z. z.receivers) now ∙ sym (ap (λ z. z.receivers) is), ap (λ z. z.receivers) now));
    }
splits id v (suc zero) t lt is s c at =
    let now = halves 1 v t is in
    record {
      sent = c.sent;
      received = c.received;
      words = c.words;
      senders = gives_side (λ u. u.senders) c.sent id s.views v (halved v) (halved v) c.senders at (inl (ap (λ z. z.senders) now ∙ sym (ap (λ z. z.senders) is), ap (λ z. z.senders) now));
      receivers = splits_side (λ u. u.receivers) c.received id s.views v (halved v) t c.receivers at (ap (λ z. z.receivers) is) (ap (λ z. z.receivers) now);
    }
splits id v (suc (suc i)) t lt is s c at = absurd (omega (arith, lt))

-- the first seat becomes that of a sender and that of a receiver
pub parts : (id : ℕ) (v : SeatCounts) → v ≡ both_sides → Splits IsCounted id v first_sender first_receiver
parts id v is s c at = record {
  sent = c.sent;
  received = c.received;
  words = c.words;
  senders = gives_side (λ u. u.senders) c.sent id s.views v first_sender first_receiver c.senders at (inl (sym (ap (λ z. z.senders) is), refl));
  receivers = gives_side (λ u. u.receivers) c.received id s.views v first_sender first_receiver c.receivers at (inr (refl, sym (ap (λ z. z.receivers) is)));
}

-- two seats become one
pub joins : (id : ℕ) (v : SeatCounts) (other : ℕ) (w : SeatCounts) → Joins IsCounted id v other w (two_seats v w) (both nobody nobody)
joins id v other w s c at two at' = record {
  sent = c.sent;
  received = c.received;
  words = c.words;
  senders = unites (λ u. u.senders) c.sent id other s.views v w (two_seats v w) (both nobody nobody) c.senders at at' two refl refl;
  receivers = unites (λ u. u.receivers) c.received id other s.views v w (two_seats v w) (both nobody nobody) c.receivers at at' two refl refl;
}

pub two_ends : (i : ℕ) (v w : SeatCounts) (s t : Share) → v ≡ at_side i (side 1 0 s) → w ≡ at_side i (side 1 0 t) → two_seats v w ≡ at_side i (side 2 0 (plus s t))
two_ends zero v w s t a b = λ k. two_seats (a k) (b k)
two_ends (suc i) v w s t a b = λ k. two_seats (a k) (b k)

-- the first seat counts for one end of each side
pub begins : IsCounted record { words = 1 ∷ 1 ∷ []; homes = []; views = both_sides ∷ [] }
begins = record {
  sent = 1;
  received = 1;
  words = refl;
  senders = first_side (λ u. u.senders) refl;
  receivers = first_side (λ u. u.receivers) refl;
}
  where
    first_side : (of : SeatCounts → Side) → of both_sides ≡ side 1 0 entire → SideKept of 1 (both_sides ∷ [])
    first_side of is =
        let e : ends of both_sides ≡ 1 = ap (λ z. z.ends) is in let x : extra of both_sides ≡ 0 = ap (λ z. z.extra) is in let t : stake of both_sides ≡ entire = ap (λ z. z.stake) is in
        record {
          extra = λ j v at. only j v at (λ z. extra of z ≤ ends of z) (omega (arith, e, x));
          counted = omega (arith, e, x);
          limited = omega (arith, e);
          has_stake = λ j v at. only j v at (λ z. 0 < ends of z → IsSome (stake of z)) (λ _. subst (λ (s : Share). IsSome s) (sym t) (omega arith));
          depth = 0;
          shallow = λ j v at. only j v at (λ z. (stake of z).1 ≤ 0) (subst (λ (s : Share). s.1 ≤ 0) (sym t) (omega arith));
          one = let w : weight 0 (stake of both_sides) ≡ 1 = ap (weight 0) t in omega (arith, w);
        }
      where
        only : (j : ℕ) (v : SeatCounts) → get_elem? (both_sides ∷ []) j ≡ some v → (P : SeatCounts → Type 0) → P both_sides → P v
        only zero v at P p = subst P (some-injective both_sides v at) p
        only (suc j) v at P p = absurd (some-ne-none v (sym at))
