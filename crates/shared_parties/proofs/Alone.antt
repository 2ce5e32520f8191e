-- The party that has all of the share has every place, and the others count for nobody.
use Rattle.std.proofs.Common.{◌≡◌, ◌≢◌, ℕ, List, [], length, Option, ap, arith}
use mathlib.Core.Option.{some}
use lib.ListN.{get_elem?}
use Rattle.queue_laws.specs.Common.Vocabulary.{Effect}
use Rattle.queue_steps.specs.{Shares.Share, Shares.IsEntire, Parties.IsWhole}
use Rattle.shared_parties.specs.{Counting.times, Counting.once_below, declared.known.Known.Known, Known.party, Known.view_of, Known.Kept}
use Rattle.shared_parties.proofs.{Counting.all_places, Keeping.is_whole}

pub record Alone {T : Type 0} (h : List (Effect T)) (views : List (Known T)) (id : ℕ) (v : Known T) : Type 0 where
  pub whole : IsWhole (view_of v)
  pub seen : v.seen ≡ h
  pub others : (j : ℕ) (u : Known T) → j ≢ id → get_elem? views j ≡ some u → u.parties ≡ 0

pub alone : {T : Type 0} (cap of : Option ℕ) (h seen : List (Effect T)) (n : ℕ) (views : List (Known T)) (id : ℕ) (v : Known T) (mine : List ℕ) (share : Share) → Kept cap h n views → get_elem? views id ≡ some v
    → v ≡ party of seen mine share → IsEntire v.share → Alone h views id v
alone {T} cap of h seen n views id v mine share kept at is entire =
    let w = is_whole T cap h n views id v kept at (ap (λ (z : Known T). z.parties) is) entire (ap (λ (z : Known T). z.second_seen) is) in
    let none : v.second_places ≡ [] = ap (λ (z : Known T). z.second_places) is in record {
      whole = all_places v.mine (length v.seen) (λ p. omega (arith, w.0 p, ap (times p) none, ap (λ (l : List (Effect T)). once_below p (length l)) w.1));
      seen = w.1;
      others = w.2;
    }
