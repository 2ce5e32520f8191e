-- The steps that count parties, part them and bring them together, whatever the queue is made of: which seats they leave, and what they tell.
use Rattle.std.proofs.Common.{◌≡◌, ◌≢◌, ℕ, ◌+◌, ◌-◌, ◌*◌, ◌%◌, ◌^◌, ◌<◌, ◌≤◌, true, false, List, [], ◌∷◌, ◌++◌, map, set, None, refl, ap, sym, ◌∙◌, subst, ⊎_elim, arith, mod-eq_of_lt}
use mathlib.Core.{Option.some, Option.some-injective, List.map-append, Logic.dite}
use lib.{ListN.get_elem?, Seq.map-set}
use native.Mathlib.{Decide.dec_le, Nat.add-mod_right}
use Rattle.atomic_table.proofs.Lists.{at_set, at_snoc, at_map, set_again, set_else, at_longer}
use Rattle.queue_laws.specs.Common.Vocabulary.{MAX_PARTIES}
use Rattle.shared_parties.specs.{declared.known.Known.Known, declared.known.CallState.CallState, CallStates.is_busy, CallStates.known_by, CallStates.idle, CallStates.empty_seat, CallStates.IsResting, CallStates.SameCalls, CallStates.Sharing}
use Rattle.shared_parties.specs.Known.{nobody, looked, granted, refused, withdrawn, united, one_of, other_of, pair_of, Kept}
use Rattle.shared_parties.specs.Parting.{Regroups, Recounts, Entered, Withdrew, BecameOne, SawAll, Counted, first_part, second_part, both_parts}
use Rattle.shared_parties.proofs.Keeping.{few, grants, refuses, withdraws, unites, one_entire, entire_one, looks, parts_apart, pairs_up}

down : (n : ℕ) → 0 < n → n ≤ 2 * MAX_PARTIES → (n + (2 ^ 64 - 1)) % 2 ^ 64 ≡ n - 1
down n pos low = ap (λ (z : ℕ). z % 2 ^ 64) (let e : n + (2 ^ 64 - 1) ≡ n - 1 + 2 ^ 64 = omega arith in e) ∙ (add-mod_right (n - 1) (2 ^ 64) ∙ mod-eq_of_lt (let g : n - 1 < 2 ^ 64 = omega arith in g))

module _ {T : Type 0} where
  busy_no : (d e : CallState T) → e ≡ d → is_busy e.work ≡ false → is_busy d.work ≡ true → ⊥
  busy_no d e is rests busy = cc

  quiet : (d : CallState T) (k : Known T) → d ≡ idle k → is_busy d.work ≡ false
  quiet d k is = ap (λ (z : CallState T). is_busy z.work) is

  -- who is at something is not the seat that is at nothing
  elsewhere : (vs : List (CallState T)) (i j : ℕ) (v d : CallState T) → get_elem? vs i ≡ some v → is_busy v.work ≡ false → get_elem? vs j ≡ some d → is_busy d.work ≡ true → j ≢ i
  elsewhere vs i j v d at rests there busy is = busy_no d v (some-injective v d (sym at ∙ (ap (get_elem? vs) (sym is) ∙ there))) rests busy

  -- a seat that is at nothing knows something else
  same_set : (vs : List (CallState T)) (i : ℕ) (v w : CallState T) → get_elem? vs i ≡ some v → is_busy v.work ≡ false → is_busy w.work ≡ false → SameCalls vs (set vs i w)
  same_set vs i v w at rests rests' = record {
    stays = λ j d busy there. set_else vs i j w (elsewhere vs i j v d at rests there busy) ∙ there;
    was = λ j d busy there. ⊎_elim (λ (t : (j ≡ i) × (w ≡ d)). absurd (busy_no d w t.1 rests' busy)) (λ (t : (j ≢ i) × (get_elem? vs j ≡ some d)). t.1) (at_set vs i j w d there);
  }

  -- there is one more seat, which is at nothing
  same_snoc : (vs : List (CallState T)) (w : CallState T) → is_busy w.work ≡ false → SameCalls vs (vs ++ w ∷ [])
  same_snoc vs w rests = record {
    stays = λ j d busy there. at_longer vs (w ∷ []) j d there;
    was = λ j d busy there. ⊎_elim (λ (t : get_elem? vs j ≡ some d). t) (λ (t : w ≡ d). absurd (busy_no d w t rests busy)) (at_snoc vs w d j there);
  }

  same_then : (us vs ws : List (CallState T)) → SameCalls us vs → SameCalls vs ws → SameCalls us ws
  same_then us vs ws a b = record { stays = λ j d busy there. b.stays j d busy (a.stays j d busy there); was = λ j d busy there. a.was j d busy (b.was j d busy there) }

module _ {T : Type 0} {n : ℕ} {vs : List (CallState T)} (k : Sharing n vs) (id : ℕ) where
  abbrev ks : List (Known T)
  ks = map known_by vs

  regroups : (new : ℕ) (d : CallState T) (v : Known T) → get_elem? vs id ≡ some d → is_busy d.work ≡ false → Kept k.cap k.history new (set ks id v) → Regroups k new (set vs id (idle v))
  regroups new d v at rests kept = (same_set vs id d (idle v) at rests refl, subst (Kept k.cap k.history new) (sym (map-set known_by vs id (idle v))) kept)

  low : n ≤ 2 * MAX_PARTIES
  low = few T k.cap k.history n ks k.kept

  known_at : (d : CallState T) → get_elem? vs id ≡ some d → get_elem? ks id ≡ some d.known
  known_at d at = at_map known_by vs id d at

  pub enters : (d : CallState T) → get_elem? vs id ≡ some d → IsResting d → Recounts k id ((n + 1) % 2 ^ 64) (Entered n d)
  enters d at is =
      let one : d.known.parties ≡ 1 = ap (λ (z : CallState T). z.known.parties) is in let none : d.known.surplus ≡ 0 = ap (λ (z : CallState T). z.known.surplus) is in let rests = quiet d _ is in
      let up : (n + 1) % 2 ^ 64 ≡ n + 1 = let few = low in mod-eq_of_lt (omega arith) in
      dite (dec_le MAX_PARTIES n)
      (λ high. let v = refused d.known in (
        idle v,
        regroups ((n + 1) % 2 ^ 64) d v at rests (subst (λ (z : ℕ). Kept k.cap k.history z (set ks id v)) (sym up) (refuses T k.cap k.history n ks id d.known k.kept (known_at d at) one none)),
        ((λ less. absurd (omega arith)), λ _. (refl, λ entire. absurd (omega (arith, entire_one T k.cap k.history n ks id d.known k.kept (known_at d at) one none entire)))),
      ))
      (λ room. let v = granted d.known in (
        idle v,
        regroups ((n + 1) % 2 ^ 64) d v at rests (subst (λ (z : ℕ). Kept k.cap k.history z (set ks id v)) (sym up) (grants T k.cap k.history n ks id d.known k.kept (known_at d at) one none (omega arith))),
        ((λ _. refl), λ high. absurd (room high)),
      ))

  pub goes_back : (d : CallState T) (v : Known T) → get_elem? vs id ≡ some d → d ≡ idle (refused v) → Recounts k id ((n + (2 ^ 64 - 1)) % 2 ^ 64) (Withdrew d)
  goes_back d v at is =
      let w = withdraws T k.cap k.history n ks id d.known k.kept (known_at d at) (ap (λ (z : CallState T). z.known.parties) is) (ap (λ (z : CallState T). z.known.surplus) is) in (
        idle (withdrawn d.known),
        regroups _ d (withdrawn d.known) at (quiet d _ is) (subst (λ (z : ℕ). Kept k.cap k.history z (set ks id (withdrawn d.known))) (sym (down n w.0 low)) w.1),
        refl,
      )

  pub unites_two : (d : CallState T) (v u : Known T) → get_elem? vs id ≡ some d → d ≡ idle (pair_of v u) → Recounts k id ((n + (2 ^ 64 - 1)) % 2 ^ 64) (BecameOne d)
  unites_two d v u at is =
      let w = unites T k.cap k.history n ks id d.known k.kept (known_at d at) (ap (λ (z : CallState T). z.known.parties) is) (ap (λ (z : CallState T). z.known.surplus) is) in let one = united k.history d.known in (
        idle one,
        regroups _ d one at (quiet d _ is) (subst (λ (z : ℕ). Kept k.cap k.history z (set ks id one)) (sym (down n w.0 low)) w.1),
        (k.history, refl, w.2),
      )

  pub looks_on : (d : CallState T) (v u : Known T) → get_elem? vs id ≡ some d → d ≡ idle (pair_of v u) → Recounts k id n (SawAll d)
  looks_on d v u at is =
      let two : d.known.parties ≡ 2 = ap (λ (z : CallState T). z.known.parties) is in
      let w = looks T k.cap k.history n ks id d.known k.kept (known_at d at) (omega arith) in (
        idle (looked k.history d.known),
        regroups n d (looked k.history d.known) at (quiet d _ is) w.0,
        (k.history, refl, w.1),
      )

  pub counts_one : (d : CallState T) → get_elem? vs id ≡ some d → IsResting d → Recounts k id n (Counted n d)
  counts_one d at is =
      let one : d.known.parties ≡ 1 = ap (λ (z : CallState T). z.known.parties) is in let none : d.known.surplus ≡ 0 = ap (λ (z : CallState T). z.known.surplus) is in let rests = quiet d _ is in (
        d,
        (same_set vs id d d at rests rests, subst (λ (us : List (CallState T)). Kept k.cap k.history n (map known_by us)) (sym (set_again vs id d at)) k.kept),
        (
          refl,
          (λ is_one. one_entire T k.cap k.history ks id d.known (subst (λ (z : ℕ). Kept k.cap k.history z ks) is_one k.kept) (known_at d at) one none),
          λ other entire. absurd (other (entire_one T k.cap k.history n ks id d.known k.kept (known_at d at) one none entire)),
        ),
      )

  -- a seat that is at nothing becomes two
  divides : (d : CallState T) (l q : Known T) → get_elem? vs id ≡ some d → is_busy d.work ≡ false → Kept k.cap k.history n (set ks id l ++ q ∷ []) → Regroups k n (set vs id (idle l) ++ idle q ∷ [])
  divides d l q at rests kept =
      let us : List (CallState T) = set vs id (idle l) in (
        same_then vs us (us ++ idle q ∷ []) (same_set vs id d (idle l) at rests refl) (same_snoc us (idle q) refl),
        subst (Kept k.cap k.history n) (sym (map-append known_by us (idle q ∷ []) ∙ ap (λ (zs : List (Known T)). zs ++ q ∷ []) (map-set known_by vs id (idle l)))) kept,
      )

  pub splits_apart : (d : CallState T) → get_elem? vs id ≡ some d → is_busy d.work ≡ false → d.known.parties ≡ 2 → d.known.surplus ≡ 0 → Regroups k n (set vs id (first_part d) ++ second_part d ∷ [])
  splits_apart d at rests two none = divides d (one_of d.known) (other_of d.known) at rests (parts_apart T k.cap k.history n ks id d.known k.kept (known_at d at) two none)

  -- two seats that are at nothing become one
  pub joins_up : (other : ℕ) (d e : CallState T) → get_elem? vs id ≡ some d → other ≢ id → get_elem? (set vs id (both_parts d e)) other ≡ some e → IsResting d → IsResting e → Regroups k n (set (set vs id (both_parts d e)) other empty_seat)
  joins_up other d e at two at' is_d is_e =
      let b : CallState T = both_parts d e in let us : List (CallState T) = set vs id b in
      let both : map known_by (set us other empty_seat) ≡ set (set ks id (pair_of d.known e.known)) other (nobody None) =
      map-set known_by us other empty_seat ∙ ap (λ (zs : List (Known T)). set zs other (nobody None)) (map-set known_by vs id b) in (
        same_then vs us (set us other empty_seat) (same_set vs id d b at (quiet d _ is_d) refl) (same_set us other e empty_seat at' (quiet e _ is_e) refl),
        subst (Kept k.cap k.history n) (sym both)
            (pairs_up T k.cap None k.history n ks id other d.known e.known k.kept (known_at d at) two
            (subst (λ (zs : List (Known T)). get_elem? zs other ≡ some e.known) (map-set known_by vs id b) (at_map known_by us other e at')) (ap known_by is_d) (ap known_by is_e)),
      )
