-- A shared call leaves its party a view: its places lie in what it has seen, none twice. So a party whose call ended is one that is between its calls.
use Rattle.std.proofs.Common.{◌≡◌, ◌≢◌, ℕ, suc, ◌<◌, ◌≤◌, List, [], ◌∷◌, ◌++◌, length, Option, sym, subst, arith}
use Rattle.std.specs.List.{All, AllPairs}
use Rattle.std.proofs.lemmas.List.{Elements.All-append, Elements.All-weaker, Elements.All-head, Elements.All-tail, Kept.AllPairs-cons}
use Rattle.queue_laws.specs.Common.Vocabulary.{Call, Reply}
use Rattle.queue_steps.specs.{Shares.IsEntire, Shares.IsSome, Shares.IsPart, Parties.View, Parties.IsView, Parties.IsWhole, Parties.SharedCall}
use Rattle.queue_steps.proofs.Places.{stand_from, stand_once, stand_inside}
use Rattle.shared_parties.{specs.declared.known.CallState.CallState, specs.Known.view_of, specs.CallStates.IsResting, specs.CallStates.HasAll, specs.Parting.IsParty, proofs.Histories.prefix_length}

-- places below n and others from n on, none twice
apart_append : (xs ys : List ℕ) (n : ℕ) → AllPairs (λ p q. p ≢ q) xs → All (λ p. p < n) xs → AllPairs (λ p q. p ≢ q) ys → All (λ p. n ≤ p) ys → AllPairs (λ p q. p ≢ q) (xs ++ ys)
apart_append [] ys n once low more high = more
apart_append (x ∷ xs) ys n once low more high =
    AllPairs-cons (λ p q. p ≢ q) x (xs ++ ys)
    (All-append (λ q. x ≢ q) xs ys (λ j d lt. once 0 (suc j) d (omega arith) (omega (arith, lt))) (All-weaker (λ p. n ≤ p) (λ q. x ≢ q) (λ q le same. omega (arith, le, same, All-head (λ p. p < n) x xs low)) ys high))
    (apart_append xs ys n (λ i j d lt inside. once (suc i) (suc j) d (omega (arith, lt)) (omega (arith, inside))) (All-tail (λ p. p < n) x xs low) more high)

module _ {T : Type 0} where
  -- a shared call leaves its party a view
  pub still_view : (old cap : Option ℕ) (v w : View T) (c : Call T) (r : Reply T) → IsView old v → SharedCall cap v w c r → (IsEntire w.share → IsWhole w) → IsView cap w
  still_view old cap v w c r is s whole =
      let longer : length v.seen ≤ length w.seen = prefix_length v.seen w.seen s.begins in record {
        legal = s.legal;
        inside = subst (All (λ p. p < length w.seen)) (sym s.mine)
            (All-append (λ p. p < length w.seen) v.mine s.places (All-weaker (λ p. p < length v.seen) (λ p. p < length w.seen) (λ p lt. omega (arith, lt, longer)) v.mine is.inside)
            (stand_inside w.seen (length v.seen) s.places s.effects s.stand));
        once = subst (AllPairs (λ p q. p ≢ q)) (sym s.mine)
            (apart_append v.mine s.places (length v.seen) is.once is.inside (stand_once w.seen (length v.seen) s.places s.effects s.stand) (stand_from w.seen (length v.seen) s.places s.effects s.stand));
        some = subst IsSome (sym s.share) is.some;
        part = subst IsPart (sym s.share) is.part;
        whole = whole;
      }

  pub ended_party : (cap : Option ℕ) (d e : CallState T) (c : Call T) (r : Reply T) → IsParty d → IsResting e → e.known.cap ≡ cap → HasAll e → SharedCall cap (view_of d.known) (view_of e.known) c r → IsParty e
  ended_party cap d e c r is rests cap_is whole calls =
      (rests, subst (λ (z : Option ℕ). IsView z (view_of e.known)) (sym cap_is) (still_view d.known.cap cap (view_of d.known) (view_of e.known) c r is.1 calls whole))
