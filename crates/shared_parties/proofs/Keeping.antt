-- What the parties know stays true when one looks, adds an effect, is split or joined.
use Rattle.std.proofs.Common.{◌≡◌, ℕ, zero, suc, ◌+◌, ◌-◌, ◌*◌, ◌^◌, ◌<◌, ◌≤◌, ◌≢◌, ◌⊎◌, List, [], ◌∷◌, ◌++◌, length, set, Option, refl, ap, sym, ◌∙◌, subst, ⊎_elim, inl, inr, arith, length-append}
use Rattle.std.proofs.{lemmas.Bool.Decides.nat_tests, lemmas.List.append-nil, lemmas.Nat.pow-add, Math.Nat.add-mul, Math.Nat.eq-zero-or-pos}
use mathlib.Core.{Option.some, Logic.dite, List.IsPrefix}
use lib.ListN.{get_elem?}
use native.Mathlib.Decide.{dec_le}
use Rattle.atomic_table.proofs.Lists.{at_set, at_snoc}
use Rattle.queue_laws.{specs.Common.Vocabulary.Effect, specs.Common.Vocabulary.MAX_PARTIES, proofs.Common.Runs.runs_snoc}
use Rattle.queue_steps.specs.{Effect.Fits, Effect.IsHistory, Effect.after, Shares.Share, Shares.nothing, Shares.IsEntire, Shares.IsSome, Shares.IsPart, Shares.weight}
use Rattle.shared_parties.specs.{Counting.times, Counting.once_below, declared.known.Known.Known}
use Rattle.queue_steps.proofs.ShareLaws.{weight_deeper, weight_plus, weight_halves, weight_none, none_weight, weight_entire, entire_weight, part_weight, plus_some, entire_plus}
use Rattle.shared_parties.specs.Known.{total, party, nobody, has, share_of, portion, IsTrueOf, Divided, Kept, looked, gained, granted, refused, withdrawn, united, one_of, other_of, pair_of, Sees, Gains}
use Rattle.shared_parties.proofs.Histories.{prefix_self, prefix_more, prefix_length, prefix_whole}
use Rattle.shared_parties.proofs.Totals.{total_set, total_snoc, total_at, total_two, total_most, total_alone, total_times, times_snoc, times_append, once_more, once_when, once_most}

module _ (T : Type 0) (cap : Option ℕ) where
  abbrev V : Type 0
  V = Known T

  abbrev parts : V → ℕ
  parts v = v.parties

  abbrev surplus : V → ℕ
  surplus v = v.surplus

  abbrev AllFit : List (Effect T) → List V → Type 0
  AllFit h views = (j : ℕ) (v : V) → get_elem? views j ≡ some v → IsTrueOf cap h v

  fits_set : (h : List (Effect T)) (views : List V) (i : ℕ) (w : V) → AllFit h views → IsTrueOf cap h w → AllFit h (set views i w)
  fits_set h views i w all mine j v e = ⊎_elim (λ (t : (j ≡ i) × (w ≡ v)). subst (IsTrueOf cap h) t.1 mine) (λ (t : (j ≢ i) × (get_elem? views j ≡ some v)). all j v t.1) (at_set views i j w v e)

  fits_snoc : (h : List (Effect T)) (views : List V) (w : V) → AllFit h views → IsTrueOf cap h w → AllFit h (views ++ w ∷ [])
  fits_snoc h views w all mine j v e = ⊎_elim (λ (t : get_elem? views j ≡ some v). all j v t) (λ (t : w ≡ v). subst (IsTrueOf cap h) t mine) (at_snoc views w v j e)

  fits_more : (h more : List (Effect T)) (v : V) → IsTrueOf cap h v → IsTrueOf cap (h ++ more) v
  fits_more h more v f = record { capped = f.capped; begins = prefix_more v.seen h more f.begins; heard = prefix_more v.second_seen h more f.heard; within = f.within; empty = f.empty; surplus = f.surplus; poor = f.poor; some = f.some; alone = f.alone; both = f.both }

  -- a place of a party lies in the history
  inside : (h : List (Effect T)) (v : V) → IsTrueOf cap h v → (p : ℕ) → 0 < has p v → p < length h
  inside h v f p m = ⊎_elim (λ (t : p < length v.seen). omega (arith, t, prefix_length v.seen h f.begins)) (λ (t : p < length v.second_seen). omega (arith, t, prefix_length v.second_seen h f.heard)) (f.within p m)

  -- the shares at a larger depth
  deeper : (views : List V) (j : ℕ) (d : Divided views) → total (portion (d.depth + j)) views ≡ 2 ^ (d.depth + j)
  deeper views j d =
      total_times (portion d.depth) (portion (d.depth + j)) (2 ^ j) views
      (λ i v e. let s = d.shallow i v e in (λ x. weight_deeper d.depth j v.share s.0 x + weight_deeper d.depth j v.second_share s.1 x) ∙ sym (add-mul (weight d.depth v.share) (weight d.depth v.second_share) (2 ^ j)))
      ∙ (ap (λ (z : ℕ). z * 2 ^ j) d.one ∙ sym (pow-add 2 d.depth j))

  abbrev Shallow : ℕ → V → Type 0
  Shallow depth v = (v.share.1 ≤ depth) × (v.second_share.1 ≤ depth)

  shallow_set : (depth : ℕ) (views : List V) (id : ℕ) (w : V) → ((j : ℕ) (u : V) → get_elem? views j ≡ some u → Shallow depth u) → Shallow depth w → (j : ℕ) (u : V) → get_elem? (set views id w) j ≡ some u → Shallow depth u
  shallow_set depth views id w all mine j u e = ⊎_elim (λ (t : (j ≡ id) × (w ≡ u)). subst (Shallow depth) t.1 mine) (λ (t : (j ≢ id) × (get_elem? views j ≡ some u)). all j u t.1) (at_set views id j w u e)

  -- a seat's shares are written otherwise
  divided_as : (views : List V) (id : ℕ) (v w : V) (d : Divided views) (j : ℕ) → get_elem? views id ≡ some v → Shallow (d.depth + j) w → portion (d.depth + j) w ≡ portion (d.depth + j) v → Divided (set views id w)
  divided_as views id v w d j at low same = record {
    depth = d.depth + j;
    shallow = shallow_set (d.depth + j) views id w (λ i u e. let s = d.shallow i u e in (omega (arith, s.0), omega (arith, s.1))) low;
    one = omega (arith, total_set (portion (d.depth + j)) views id v w at, deeper views j d, same);
  }

  divided_still : (views : List V) (id : ℕ) (v w : V) (d : Divided views) → get_elem? views id ≡ some v → w.share ≡ v.share → w.second_share ≡ v.second_share → Divided (set views id w)
  divided_still views id v w d at same same' =
      let s = d.shallow id v at in
      divided_as views id v w d 0 at (subst (λ (z : Share × Share). (z.0.1 ≤ d.depth + 0) × (z.1.1 ≤ d.depth + 0)) (λ i. (sym same i, sym same' i)) (omega (arith, s.0), omega (arith, s.1)))
      (λ i. weight (d.depth + 0) (same i) + weight (d.depth + 0) (same' i))

  -- no seat has more than one share in all
  is_part : (views : List V) (id : ℕ) (v : V) (d : Divided views) → get_elem? views id ≡ some v → IsPart (share_of v)
  is_part views id v d at =
      let s = d.shallow id v at in let depth : ℕ = d.depth + d.depth in
      part_weight depth (share_of v) (omega (arith, s.0, s.1)) (omega (arith, weight_plus depth v.share v.second_share (omega (arith, s.0, s.1)), total_at (portion depth) views id v at, deeper views d.depth d))

  -- where all shares are one seat's, so is all that parties have
  is_all : (h : List (Effect T)) (views : List V) (id : ℕ) (v : V) (f : V → ℕ) → AllFit h views → (d : Divided views) → get_elem? views id ≡ some v → IsEntire (share_of v)
      → ((j : ℕ) (u : V) → get_elem? views j ≡ some u → u.parties ≡ 0 → f u ≡ 0) → total f views ≡ f v
  is_all h views id v f all d at entire none =
      let s = d.shallow id v at in let depth : ℕ = d.depth + d.depth in
      total_alone f (portion depth) views id v at (λ j u e zero_portion. none j u e (no_parts j u e (none_weight depth u.share (omega (arith, zero_portion)))))
      (omega (arith, deeper views d.depth d, weight_plus depth v.share v.second_share (omega (arith, s.0, s.1)), weight_entire depth (share_of v) (omega (arith, s.0, s.1)) entire))
    where
      no_parts : (j : ℕ) (u : V) → get_elem? views j ≡ some u → u.share.0 ≡ 0 → u.parties ≡ 0
      no_parts j u e none = ⊎_elim (λ (t : u.parties ≡ 0). t) (λ (t : 0 < u.parties). absurd (omega (arith, none, (all j u e).some t))) (eq-zero-or-pos u.parties)

  -- then every place is its own
  all_places : (h : List (Effect T)) (n : ℕ) (views : List V) (id : ℕ) (v : V) → Kept cap h n views → get_elem? views id ≡ some v → IsEntire (share_of v) → (p : ℕ) → has p v ≡ once_below p (length h)
  all_places h n views id v k at entire p = sym (is_all h views id v (has p) k.true_of k.divided at entire (λ j u e none. (k.true_of j u e).empty none p)) ∙ k.owned p

  -- the seat id goes on from v to w, and the history from h to h ++ more
  changes : (h more : List (Effect T)) (n n' : ℕ) (views : List V) (id : ℕ) (v w : V) → Kept cap h n views → get_elem? views id ≡ some v → IsHistory cap (h ++ more) → IsTrueOf cap (h ++ more) w
      → ((p : ℕ) → has p w + once_below p (length h) ≡ has p v + once_below p (length (h ++ more))) → w.parties + w.surplus + n ≡ v.parties + v.surplus + n' → (total parts views ≤ MAX_PARTIES → total parts views + w.parties ≤ MAX_PARTIES + v.parties)
      → Divided (set views id w) → Kept cap (h ++ more) n' (set views id w)
  changes h more n n' views id v w k at legal fit places count limit divided = record {
    legal = legal;
    true_of = fits_set (h ++ more) views id w (λ j u at'. fits_more h more u (k.true_of j u at')) fit;
    owned = λ p. omega (arith, total_set (has p) views id v w at, k.owned p, places p);
    counted = omega (arith, total_set parts views id v w at, total_set surplus views id v w at, k.counted, count);
    limited = omega (arith, total_set parts views id v w at, limit k.limited);
    divided = divided;
  }

  once_at_most : (h : List (Effect T)) (n : ℕ) (views : List V) (id : ℕ) (v : V) → Kept cap h n views → get_elem? views id ≡ some v → (p : ℕ) → has p v ≤ 1
  once_at_most h n views id v k at p = omega (arith, total_at (has p) views id v at, k.owned p, once_most p (length h))

  -- a step that adds no effect
  stays : (h : List (Effect T)) (n n' : ℕ) (views : List V) (id : ℕ) (v w : V) → Kept cap h n views → get_elem? views id ≡ some v → IsTrueOf cap h w
      → ((p : ℕ) → has p w ≡ has p v) → w.parties + w.surplus + n ≡ v.parties + v.surplus + n' → (total parts views ≤ MAX_PARTIES → total parts views + w.parties ≤ MAX_PARTIES + v.parties)
      → Divided (set views id w) → Kept cap h n' (set views id w)
  stays h n n' views id v w k at fit places count limit divided =
      let whole = append-nil h in
      subst (λ (g : List (Effect T)). Kept cap g n' (set views id w)) whole
      (changes h [] n n' views id v w k at (subst (IsHistory cap) (sym whole) k.legal) (subst (λ (g : List (Effect T)). IsTrueOf cap g w) (sym whole) fit)
      (λ p. omega (arith, places p, ap (λ (g : List (Effect T)). once_below p (length g)) whole)) count limit divided)

  fits_looked : (h : List (Effect T)) (v : V) → IsTrueOf cap h v → IsTrueOf cap h (looked h v)
  fits_looked h v f = record { capped = f.capped; begins = prefix_self h; heard = (h, refl); within = λ p m. inl (inside h v f p m); empty = f.empty; surplus = f.surplus; poor = f.poor; some = f.some; alone = f.alone; both = f.both }

  -- what is a history for the queue is one for the seat
  legal_for : (h : List (Effect T)) (v : V) → IsHistory cap h → v.cap ≡ cap → IsHistory v.cap h
  legal_for h v legal is = subst (λ (c : Option ℕ). IsHistory c h) (sym is) legal

  saw : (h : List (Effect T)) (n : ℕ) (views : List V) (id : ℕ) (v : V) → Kept cap h n views → get_elem? views id ≡ some v → 0 < v.parties → Sees v (looked h v)
  saw h n views id v k at counts = let f = k.true_of id v at in record {
    later = f.begins;
    heard = f.heard;
    legal = legal_for h v k.legal (f.capped counts);
    inside = inside h v f;
    once = once_at_most h n views id v k at;
    part = is_part views id v k.divided at;
    whole = all_places h n views id v k at;
    same = refl;
  }

  -- a seat looks: it has then seen the whole history
  pub looks : (h : List (Effect T)) (n : ℕ) (views : List V) (id : ℕ) (v : V) → Kept cap h n views → get_elem? views id ≡ some v → 0 < v.parties
      → Kept cap h n (set views id (looked h v)) × Sees v (looked h v)
  looks h n views id v k at counts = let f = k.true_of id v at in (
    stays h n n views id v (looked h v) k at (fits_looked h v f) (λ p. refl) refl (λ le. omega (arith, le)) (divided_still views id v (looked h v) k.divided at refl refl),
    saw h n views id v k at counts,
  )

  pub gains : (h : List (Effect T)) (n : ℕ) (views : List V) (id : ℕ) (v : V) (e : Effect T) → Kept cap h n views → get_elem? views id ≡ some v
      → 0 < v.parties → Fits e (after cap h) → Kept cap (h ++ e ∷ []) n (set views id (gained h e v)) × Gains e v (gained h e v)
  gains h n views id v e k at counts can =
      let w = gained h e v in let f = k.true_of id v at in
      let legal : IsHistory cap (h ++ e ∷ []) = runs_snoc _ h e k.legal can in
      let more : length (h ++ e ∷ []) ≡ length h + 1 = length-append h (e ∷ []) in (
        changes h (e ∷ []) n n views id v w k at legal
            record {
              capped = f.capped;
              begins = prefix_self (h ++ e ∷ []);
              heard = (h ++ e ∷ [], refl);
              within = λ p m. inl (within_gained h e v f p m);
              empty = λ none. absurd (omega arith);
              surplus = f.surplus;
              poor = f.poor;
              some = f.some;
              alone = f.alone;
              both = f.both;
            } (λ p. omega (arith, times_snoc p v.mine (length h), once_more p (length h), ap (once_below p) more)) refl (λ le. omega (arith, le)) (divided_still views id v w k.divided at refl refl),
        record {
          before = h;
          later = f.begins;
          legal = legal_for (h ++ e ∷ []) v legal (f.capped counts);
          whole = λ entire p. omega (arith, all_places h n views id v k at entire p, times_snoc p v.mine (length h), once_more p (length h), ap (once_below p) more);
          same = refl;
        },
      )
    where
      within_gained : (h : List (Effect T)) (e : Effect T) (v : V) → IsTrueOf cap h v → (p : ℕ) → 0 < has p (gained h e v) → p < length (h ++ e ∷ [])
      within_gained h e v f p m =
          let more : length (h ++ e ∷ []) ≡ length h + 1 = length-append h (e ∷ []) in let split = times_snoc p v.mine (length h) in let low : 0 < has p v → p < length h = inside h v f p in grind (arith, nat_tests)

  -- the count of parties n goes up. It is granted, or the count is too high
  fits_as : (h : List (Effect T)) (v w : V) → IsTrueOf cap h v → 0 < v.parties → w.cap ≡ v.cap → w.seen ≡ v.seen → w.second_seen ≡ v.second_seen → w.mine ≡ v.mine → w.second_places ≡ v.second_places → 0 < w.parties → w.surplus ≤ w.parties
      → IsSome w.share → (w.parties ≤ 1 → w.second_share.0 ≡ 0) → (2 ≤ w.parties → IsSome w.second_share) → IsTrueOf cap h w
  fits_as h v w f before is s t m o counts le rich alone both = record {
    capped = λ _. is ∙ f.capped before;
    begins = subst (λ (g : List (Effect T)). IsPrefix g h) (sym s) f.begins;
    heard = subst (λ (g : List (Effect T)). IsPrefix g h) (sym t) f.heard;
    within = λ p. subst (λ (z : List (Effect T) × List (Effect T) × List ℕ × List ℕ). 0 < times p z.2 + times p z.3 → (p < length z.0) ⊎ (p < length z.1)) (λ i. (sym s i, sym t i, sym m i, sym o i)) (f.within p);
    empty = λ none. absurd (omega arith);
    surplus = le;
    poor = λ none. absurd (omega arith);
    some = λ _. rich;
    alone = alone;
    both = both;
  }

  -- the number of parties never comes near a word's end
  pub few : (h : List (Effect T)) (n : ℕ) (views : List V) → Kept cap h n views → n ≤ 2 * MAX_PARTIES
  few h n views k = omega (arith, k.counted, k.limited, total_most surplus parts views (λ j v e. (k.true_of j v e).surplus))

  pub grants : (h : List (Effect T)) (n : ℕ) (views : List V) (id : ℕ) (v : V) → Kept cap h n views → get_elem? views id ≡ some v → v.parties ≡ 1 → v.surplus ≡ 0 → n < MAX_PARTIES
      → Kept cap h (n + 1) (set views id (granted v))
  grants h n views id v k at one none low =
      let f = k.true_of id v at in let rich = f.some (omega arith) in let d = k.divided in let s = d.shallow id v at in let depth : ℕ = d.depth + 1 in
      stays h n (n + 1) views id v (granted v) k at
      (fits_as h v (granted v) f (omega arith) refl refl refl refl refl (omega arith) (omega arith) rich (λ few. absurd (omega arith)) (λ _. rich)) (λ p. refl) (omega arith)
      (λ le. omega (arith, k.counted))
      (divided_as views id v (granted v) d 1 at (omega (arith, s.0), omega (arith, s.0))
      (omega (arith, weight_halves depth v.share (omega (arith, s.0)), weight_none depth v.second_share (f.alone (omega arith)))))

  pub refuses : (h : List (Effect T)) (n : ℕ) (views : List V) (id : ℕ) (v : V) → Kept cap h n views → get_elem? views id ≡ some v → v.parties ≡ 1 → v.surplus ≡ 0
      → Kept cap h (n + 1) (set views id (refused v))
  refuses h n views id v k at one none =
      let f = k.true_of id v at in
      stays h n (n + 1) views id v (refused v) k at
      (fits_as h v (refused v) f (omega arith) refl refl refl refl refl (omega arith) (omega arith) (f.some (omega arith)) (λ _. f.alone (omega arith)) (λ two. absurd (omega arith))) (λ p. refl) (omega arith)
      (λ le. omega (arith, le)) (divided_still views id v (refused v) k.divided at refl refl)

  -- a refused one goes back
  pub withdraws : (h : List (Effect T)) (n : ℕ) (views : List V) (id : ℕ) (v : V) → Kept cap h n views → get_elem? views id ≡ some v → v.parties ≡ 1 → v.surplus ≡ 1
      → (0 < n) × Kept cap h (n - 1) (set views id (withdrawn v))
  withdraws h n views id v k at one some_extra =
      let f = k.true_of id v at in let pos : 0 < n = omega (arith, k.counted, total_at parts views id v at) in (
        pos,
        stays h n (n - 1) views id v (withdrawn v) k at
            (fits_as h v (withdrawn v) f (omega arith) refl refl refl refl refl (omega arith) (omega arith) (f.some (omega arith)) (λ _. f.alone (omega arith)) (λ two. absurd (omega arith))) (λ p. refl) (omega arith)
            (λ le. omega (arith, le)) (divided_still views id v (withdrawn v) k.divided at refl refl),
      )

  -- two parties become one, which sees the history
  pub unites : (h : List (Effect T)) (n : ℕ) (views : List V) (id : ℕ) (v : V) → Kept cap h n views → get_elem? views id ≡ some v → v.parties ≡ 2 → v.surplus ≡ 0
      → (0 < n) × Kept cap h (n - 1) (set views id (united h v)) × Sees v (looked h v)
  unites h n views id v k at two none =
      let f = k.true_of id v at in let pos : 0 < n = omega (arith, k.counted, total_at parts views id v at) in
      let d = k.divided in let s = d.shallow id v at in let depth : ℕ = d.depth + d.depth in (
        pos,
        stays h n (n - 1) views id v (united h v) k at
            record {
              capped = λ _. f.capped (omega arith);
              begins = prefix_self h;
              heard = (h, refl);
              within = λ p m. inl (inside h v f p (omega (arith, m, times_append p v.mine v.second_places)));
              empty = λ no. absurd (omega arith);
              surplus = omega arith;
              poor = λ no. absurd (omega arith);
              some = λ _. plus_some v.share v.second_share (f.some (omega arith));
              alone = λ _. refl;
              both = λ more. absurd (omega arith);
            }
            (λ p. omega (arith, times_append p v.mine v.second_places)) (omega arith) (λ le. omega (arith, le))
            (divided_as views id v (united h v) d d.depth at (omega (arith, s.0, s.1), omega arith)
            (omega (arith, weight_plus depth v.share v.second_share (omega (arith, s.0, s.1)), weight_none depth nothing refl))),
        saw h n views id v k at (omega arith),
      )

  -- where the count is one, the party has all shares
  pub one_entire : (h : List (Effect T)) (views : List V) (id : ℕ) (v : V) → Kept cap h 1 views → get_elem? views id ≡ some v → v.parties ≡ 1 → v.surplus ≡ 0 → IsEntire v.share
  one_entire h views id v k at one none =
      let d = k.divided in let s = d.shallow id v at in
      let all : total (portion d.depth) views ≡ portion d.depth v =
      total_alone (portion d.depth) parts views id v at
      (λ j u e zero_parts. let f = k.true_of j u e in omega (arith, weight_none d.depth u.share (f.poor zero_parts), weight_none d.depth u.second_share (f.alone (omega (arith, zero_parts))))) (omega (arith, k.counted)) in
      entire_weight d.depth v.share s.0 (omega (arith, all, d.one, weight_none d.depth v.second_share ((k.true_of id v at).alone (omega (arith, one)))))

  -- where a party has all shares, the count is one
  pub entire_one : (h : List (Effect T)) (n : ℕ) (views : List V) (id : ℕ) (v : V) → Kept cap h n views → get_elem? views id ≡ some v → v.parties ≡ 1 → v.surplus ≡ 0 → IsEntire v.share → n ≡ 1
  entire_one h n views id v k at one none entire =
      let all : IsEntire (share_of v) = entire_plus v.share v.second_share entire ((k.true_of id v at).alone (omega (arith, one))) in
      let p = is_all h views id v parts k.true_of k.divided at all (λ j u e zero_parts. zero_parts) in
      let x = is_all h views id v surplus k.true_of k.divided at all (λ j u e zero_parts. omega (arith, zero_parts, (k.true_of j u e).surplus)) in
      omega (arith, k.counted, p, x)

  -- a party that has all shares has every place, and has seen the whole history
  pub is_whole : (h : List (Effect T)) (n : ℕ) (views : List V) (id : ℕ) (v : V) → Kept cap h n views → get_elem? views id ≡ some v → v.parties ≡ 1 → IsEntire v.share → v.second_seen ≡ []
      → ((p : ℕ) → has p v ≡ once_below p (length h)) × (v.seen ≡ h) × ((j : ℕ) (u : V) → j ≢ id → get_elem? views j ≡ some u → u.parties ≡ 0)
  is_whole h n views id v k at one entire untold =
      let f = k.true_of id v at in
      let all_shares : IsEntire (share_of v) = entire_plus v.share v.second_share entire (f.alone (omega (arith, one))) in
      let all : (p : ℕ) → has p v ≡ once_below p (length h) = all_places h n views id v k at all_shares in
      let p = is_all h views id v parts k.true_of k.divided at all_shares (λ j u e zero_parts. zero_parts) in (
        all,
        prefix_whole v.seen h f.begins (reaches (length h) (length v.seen) (λ p low. ⊎_elim (λ (t : p < length v.seen). t) (λ (t : p < length v.second_seen). absurd (omega (arith, t, ap length untold))) (f.within p (omega (arith, all p, once_when p (length h) low))))),
        λ j u other there. omega (arith, p, total_two parts views id j v u at there other),
      )
    where
      reaches : (n m : ℕ) → ((p : ℕ) → p < n → p < m) → n ≤ m
      reaches zero m low = omega arith
      reaches (suc n) m low = omega (arith, low n (omega arith))

  -- a seat becomes two, which share what it had
  abbrev Parted : V → V → V → Type 0
  Parted v l r = (depth : ℕ) → Shallow depth v → Shallow depth l × Shallow depth r × (portion depth l + portion depth r ≡ portion depth v)

  divides : (h : List (Effect T)) (n : ℕ) (views : List V) (id : ℕ) (v l r : V) → Kept cap h n views → get_elem? views id ≡ some v → IsTrueOf cap h l → IsTrueOf cap h r
      → ((p : ℕ) → has p l + has p r ≡ has p v) → l.parties + r.parties ≡ v.parties → l.surplus + r.surplus ≡ v.surplus → Parted v l r → Kept cap h n (set views id l ++ r ∷ [])
  divides h n views id v l r k at fit_l fit_r places count more parted =
      let d = k.divided in let q = parted d.depth (d.shallow id v at) in record {
        legal = k.legal;
        true_of = fits_snoc h (set views id l) r (fits_set h views id l k.true_of fit_l) fit_r;
        owned = λ p. omega (arith, total_snoc (has p) (set views id l) r, total_set (has p) views id v l at, k.owned p, places p);
        counted = omega (arith, total_snoc parts (set views id l) r, total_set parts views id v l at, total_snoc surplus (set views id l) r, total_set surplus views id v l at, k.counted);
        limited = omega (arith, total_snoc parts (set views id l) r, total_set parts views id v l at, k.limited);
        divided = record {
          depth = d.depth;
          shallow = λ j u e. ⊎_elim (λ (t : get_elem? (set views id l) j ≡ some u). shallow_set d.depth views id l d.shallow q.0 j u t) (λ (t : r ≡ u). subst (Shallow d.depth) t q.1) (at_snoc (set views id l) r u j e);
          one = omega (arith, total_snoc (portion d.depth) (set views id l) r, total_set (portion d.depth) views id v l at, d.one, q.2);
        };
      }

  pub parts_apart : (h : List (Effect T)) (n : ℕ) (views : List V) (id : ℕ) (v : V) → Kept cap h n views → get_elem? views id ≡ some v → v.parties ≡ 2 → v.surplus ≡ 0
      → Kept cap h n (set views id (one_of v) ++ other_of v ∷ [])
  parts_apart h n views id v k at two none =
      let f = k.true_of id v at in
      divides h n views id v (one_of v) (other_of v) k at
      record {
        capped = λ _. f.capped (omega arith);
        begins = f.begins;
        heard = f.heard;
        within = λ p m. f.within p (omega (arith, m));
        empty = λ no. absurd (omega arith);
        surplus = omega arith;
        poor = λ no. absurd (omega arith);
        some = λ _. f.some (omega arith);
        alone = λ _. refl;
        both = λ more. absurd (omega arith);
      }
      record {
        capped = λ _. f.capped (omega arith);
        begins = f.begins;
        heard = f.heard;
        within = λ p m. f.within p (omega (arith, m));
        empty = λ no. absurd (omega arith);
        surplus = omega arith;
        poor = λ no. absurd (omega arith);
        some = λ _. f.both (omega arith);
        alone = λ _. refl;
        both = λ more. absurd (omega arith);
      }
      (λ p. omega arith) (omega arith) (omega arith) (λ depth low. ((low.0, omega arith), (low.1, omega arith), omega (arith, weight_none depth nothing refl)))

  -- what holds of the seat of nobody
  fits_nobody : (h : List (Effect T)) (c : Option ℕ) → IsTrueOf cap h (nobody c)
  fits_nobody h c = record {
    capped = λ no. absurd (omega arith);
    begins = (h, refl);
    heard = (h, refl);
    within = λ p m. absurd (omega arith);
    empty = λ _ p. refl;
    surplus = omega arith;
    poor = λ _. refl;
    some = λ no. absurd (omega arith);
    alone = λ _. refl;
    both = λ no. absurd (omega arith);
  }

  -- two parties' seats become one for both, and one for nobody
  pub pairs_up : (c : Option ℕ) (h : List (Effect T)) (n : ℕ) (views : List V) (id other : ℕ) (v w : V) → Kept cap h n views → get_elem? views id ≡ some v → other ≢ id
      → get_elem? (set views id (pair_of v w)) other ≡ some w → v ≡ party v.cap v.seen v.mine v.share → w ≡ party w.cap w.seen w.mine w.share → Kept cap h n (set (set views id (pair_of v w)) other (nobody c))
  pairs_up c h n views id other v w k at two at' is_v is_w =
      let b = pair_of v w in let vs : List V = set views id b in
      let there : get_elem? views other ≡ some w = ⊎_elim (λ (t : (other ≡ id) × (b ≡ w)). absurd (two t.0)) (λ (t : (other ≢ id) × (get_elem? views other ≡ some w)). t.1) (at_set views id other b w at') in
      let f = k.true_of id v at in let f' = k.true_of other w there in
      let one : v.parties ≡ 1 = ap parts is_v in let one' : w.parties ≡ 1 = ap parts is_w in let e : v.surplus ≡ 0 = ap surplus is_v in let e' : w.surplus ≡ 0 = ap surplus is_w in
      let places : (p : ℕ) → has p v ≡ times p v.mine + 0 = λ p. ap (has p) is_v in let places' : (p : ℕ) → has p w ≡ times p w.mine + 0 = λ p. ap (has p) is_w in
      let untold : v.second_seen ≡ [] = ap (λ (z : V). z.second_seen) is_v in let untold' : w.second_seen ≡ [] = ap (λ (z : V). z.second_seen) is_w in
      let d = k.divided in let s = d.shallow id v at in let s' = d.shallow other w there in
      let none = weight_none d.depth v.second_share (f.alone (omega (arith, one))) in let none' = weight_none d.depth w.second_share (f'.alone (omega (arith, one'))) in record {
        legal = k.legal;
        true_of = fits_set h vs other (nobody c) (fits_set h views id b k.true_of record {
          capped = λ _. f.capped (omega arith);
          begins = f.begins;
          heard = f'.begins;
          within = λ p m. dite (dec_le 1 (times p v.mine))
              (λ yes. ⊎_elim (λ (t : p < length v.seen). inl t) (λ (t : p < length v.second_seen). absurd (omega (arith, t, ap length untold))) (f.within p (omega (arith, places p))))
              (λ no. ⊎_elim (λ (t : p < length w.seen). inr t) (λ (t : p < length w.second_seen). absurd (omega (arith, t, ap length untold'))) (f'.within p (omega (arith, places' p, m))));
          empty = λ no. absurd (omega arith);
          surplus = omega arith;
          poor = λ no. absurd (omega arith);
          some = λ _. f.some (omega (arith, one));
          alone = λ few. absurd (omega arith);
          both = λ _. f'.some (omega (arith, one'));
        }) (fits_nobody h c);
        owned = λ p. omega (arith, total_set (has p) vs other w (nobody c) at', total_set (has p) views id v b at, k.owned p, places p, places' p);
        counted = omega (arith, total_set parts vs other w (nobody c) at', total_set parts views id v b at, total_set surplus vs other w (nobody c) at', total_set surplus views id v b at, k.counted);
        limited = omega (arith, total_set parts vs other w (nobody c) at', total_set parts views id v b at, k.limited);
        divided = record {
          depth = d.depth;
          shallow = shallow_set d.depth vs other (nobody c) (shallow_set d.depth views id b d.shallow (s.0, s'.0)) (omega arith, omega arith);
          one = omega (arith, total_set (portion d.depth) vs other w (nobody c) at', total_set (portion d.depth) views id v b at, d.one, none, none', weight_none d.depth nothing refl);
        };
      }
