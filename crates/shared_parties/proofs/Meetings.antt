-- What parting, joining and meeting tell the parties.
use Rattle.std.proofs.Common.{◌≡◌, ℕ, ◌+◌, ◌<◌, ◌≤◌, List, ◌++◌, length, Option, refl, ap, sym, ◌∙◌, subst, arith}
use Rattle.queue_laws.specs.Common.Vocabulary.{Effect}
use Rattle.queue_steps.specs.{Effect.IsHistory, Shares.Share, Shares.plus, Shares.IsEntire, Shares.IsSome, Shares.IsPart, Parties.IsView, Parties.Apart}
use Rattle.queue_steps.proofs.ShareLaws.{plus_comm, plus_some, entire_rest}
use Rattle.shared_parties.specs.{declared.known.Known.Known, declared.known.CallState.CallState, Counting.times, Counting.once_below, CallStates.idle}
use Rattle.shared_parties.proofs.{Counting.all_inside, Counting.none_twice, Counting.none_in_both, Counting.all_places, Histories.prefix_either, Totals.times_append}
use Rattle.shared_parties.specs.Known.{looked, united, one_of, other_of, pair_of, view_of, Sees}
use Rattle.shared_parties.specs.Parting.{BecameOne, SawAll, both_parts, first_part, second_part, IsParty, Joins, Meets}

module _ {T : Type 0} where
  -- what two parties in one seat saw, when it looked
  abbrev Both : Known T → Known T → List (Effect T) → Type 0
  Both v w h = Sees (pair_of v w) (looked h (pair_of v w))

  apart : (v w : Known T) (h : List (Effect T)) → Both v w h → Apart (view_of v) (view_of w)
  apart v w h s = record { comparable = prefix_either v.seen w.seen h s.later s.heard; disjoint = none_in_both v.mine w.mine s.once; part = s.part }

  -- places that lie in a history and stand in it once, of a party that saw it
  is_view : (cap : Option ℕ) (v w : Known T) (h : List (Effect T)) (ps : List ℕ) (share : Share) → w.seen ≡ h → Sees v w → ((p : ℕ) → times p ps ≤ times p v.mine + times p v.second_places)
      → IsSome share → IsPart share → (IsEntire share → (p : ℕ) → times p ps ≡ once_below p (length h)) → IsView v.cap (record { seen = h; mine = ps; share = share })
  is_view cap v w h ps share is s few rich part whole = record {
    legal = subst (λ (l : List (Effect T)). IsHistory v.cap l) is s.legal;
    inside = all_inside ps (length h) (λ p m. subst (λ (l : List (Effect T)). p < length l) is (s.inside p (omega (arith, m, few p))));
    once = none_twice ps (λ p. omega (arith, s.once p, few p));
    some = rich;
    part = part;
    whole = λ entire. all_places ps (length h) (whole entire);
  }

  joins_pair : (a b : CallState T) (h : List (Effect T)) → IsSome a.known.share → Both a.known b.known h → Joins a b (idle (united h (pair_of a.known b.known)))
  joins_pair a b h rich s = let v = a.known in let w = b.known in (
    (
      refl,
      is_view v.cap (pair_of v w) (looked h (pair_of v w)) h (v.mine ++ w.mine) (plus v.share w.share) refl s (λ p. omega (arith, times_append p v.mine w.mine)) (plus_some v.share w.share rich) s.part
          (λ entire p. omega (arith, times_append p v.mine w.mine, s.whole entire p)),
    ),
    refl,
    record { apart = apart v w h s; legal = s.legal; begins = (s.later, s.heard); mine = refl; share = refl },
  )

  -- a and b are one seat d, which has then seen the history and is one party
  pub joins : (a b d e : CallState T) → IsParty a → d ≡ both_parts a b → BecameOne d e → Joins a b e
  joins a b d e at_a is u =
      let pair : d.known ≡ pair_of a.known b.known = ap (λ (z : CallState T). z.known) is in
      subst (Joins a b) (sym (u.1 ∙ ap (λ (z : Known T). idle (united u.0 z)) pair))
      (joins_pair a b u.0 at_a.1.some (subst (λ (k : Known T). Sees k (looked u.0 k)) pair u.2))

  meets_pair : (a b : CallState T) (h : List (Effect T)) → IsParty a → IsParty b → Both a.known b.known h
      → Meets a b (idle (one_of (looked h (pair_of a.known b.known)))) (idle (other_of (looked h (pair_of a.known b.known))))
  meets_pair a b h (_, is_a) (_, is_b) s = let v = a.known in let w = b.known in (
    (
      refl,
      is_view v.cap (pair_of v w) (looked h (pair_of v w)) h v.mine v.share refl s (λ p. omega arith) is_a.some is_a.part
          (λ entire p. absurd (omega (arith, is_b.some, entire_rest v.share w.share entire s.part))),
    ),
    (
      refl,
      is_view v.cap (pair_of v w) (looked h (pair_of v w)) h w.mine w.share refl s (λ p. omega arith) is_b.some is_b.part
          (λ entire p. absurd (omega (arith, is_a.some, entire_rest w.share v.share entire (subst IsPart (plus_comm v.share w.share) s.part)))),
    ),
    refl,
    refl,
    record { apart = apart v w h s; legal = s.legal; begins = (s.later, s.heard); same = refl; mine = (refl, refl); share = (refl, refl) },
  )

  -- a and b are one seat m, which has looked as n and been parted into c and d
  pub meets : (a b m n c d : CallState T) → IsParty a → IsParty b → m ≡ both_parts a b → SawAll m n → c ≡ first_part n → d ≡ second_part n → Meets a b c d
  meets a b m n c d at_a at_b is l is_c is_d =
      let v = a.known in let w = b.known in
      let pair : m.known ≡ pair_of v w = ap (λ (z : CallState T). z.known) is in
      let here : n ≡ idle (looked l.0 (pair_of v w)) = l.1 ∙ ap (λ (z : Known T). idle (looked l.0 z)) pair in
      subst (λ (z : CallState T × CallState T). Meets a b z.0 z.1) (λ i. (sym (is_c ∙ ap first_part here) i, sym (is_d ∙ ap second_part here) i))
      (meets_pair a b l.0 at_a at_b (subst (λ (k : Known T). Sees k (looked l.0 k)) pair l.2))
