-- What the parties of a queue know of its one history, what a shared call adds to that, and how parties are parted and brought together.
use Rattle.std.specs.Prelude.{◌≡◌, ◌≢◌, ◌⊎◌, ℕ, ◌+◌, ◌<◌, ◌≤◌, false, List, [], ◌∷◌, ◌++◌, length, Option}
use Rattle.std.specs.List.{All, AllPairs, Contains}
use mathlib.Core.{Option.some, List.IsPrefix}
use lib.ListN.{get_elem?}
use Rattle.queue_steps.specs.{State.State, Effect.IsHistory, Effect.after, Replies.Allows, Replies.Tells, Shares.Share, Shares.half, Shares.plus, Shares.IsEntire, Shares.IsSome, Shares.IsPart}
use Rattle.queue_steps.specs.declared.model.{Call.Call, Reply.Reply, Effect.Effect, Effect.Effect as effect}

-- a party's view: the beginning of the history that it has seen, its own places in that, and which part it is of all parties
pub record View (T : Type 0) : Type 0 where
  pub seen : List (Effect T)
  pub mine : List ℕ
  pub share : Share

-- every place of what the party has seen is its own
abbrev pub IsWhole : {T : Type 0} → View T → Type 0
IsWhole v = (p : ℕ) → p < length v.seen → Contains v.mine p

-- what was seen is a history of a queue of this capacity; the party's places lie in it, none twice. Its share is some part of one, and the party that has all of it is whole
pub record IsView {T : Type 0} (cap : Option ℕ) (v : View T) : Type 0 where
  pub legal : IsHistory cap v.seen
  pub inside : All (λ p. p < length v.seen) v.mine
  pub once : AllPairs (λ p q. p ≢ q) v.mine
  pub some : IsSome v.share
  pub part : IsPart v.share
  pub whole : IsEntire v.share → IsWhole v

-- the fact holds of the state after some history between s and t
abbrev pub Between : {T : Type 0} → Option ℕ → List (Effect T) → List (Effect T) → (State T → Type 0) → Type 0
Between {T} cap s t fact = (h : List (Effect T)) × IsPrefix s h × IsPrefix h t × fact (after cap h)

-- the effects stand in t at these places, one after the other, none before place n
abbrev pub StandAt : {T : Type 0} → List (Effect T) → ℕ → List ℕ → List (Effect T) → Type 0
StandAt t n [] [] = Unit {0}
StandAt t n (p ∷ ps) (e ∷ es) = (n ≤ p) × (get_elem? t p ≡ some e) × StandAt t (p + 1) ps es
StandAt t n _ _ = ⊥

-- a call of two places, p and then q, displaces: it had read the queue open before p, and no other item arrives before q
abbrev pub Displaces : {T : Type 0} → Option ℕ → List (Effect T) → List (Effect T) → List ℕ → Type 0
Displaces {T} cap s t (p ∷ q ∷ ps) =
    ((h : List (Effect T)) × IsPrefix s h × IsPrefix h t × (length h ≤ p) × ((after cap h).closed ≡ false))
    × ((k : ℕ) → p < k → k < q → ¬ (get_elem? t k ≡ some effect.Arrive))
Displaces cap s t _ = Unit {0}

-- the call c that is answered r takes its party's view from v to w
pub record SharedCall {T : Type 0} (cap : Option ℕ) (v w : View T) (c : Call T) (r : Reply T) : Type 0 where
  pub begins : IsPrefix v.seen w.seen
  pub legal : IsHistory cap w.seen
  pub effects : List (Effect T)
  pub places : List ℕ
  pub tells : Tells c r effects
  pub stand : StandAt w.seen (length v.seen) places effects
  pub mine : w.mine ≡ v.mine ++ places
  pub share : w.share ≡ v.share
  pub right : effects ≡ [] → Between cap v.seen w.seen (Allows c r)
  pub displaces : Displaces cap v.seen w.seen places

-- two views of one history, with no place that is both's, and shares that are together no more than one
pub record Apart {T : Type 0} (a b : View T) : Type 0 where
  pub comparable : IsPrefix a.seen b.seen ⊎ IsPrefix b.seen a.seen
  pub disjoint : (p : ℕ) → Contains a.mine p → ¬ Contains b.mine p
  pub part : IsPart (plus a.share b.share)

-- a party v is split in two: both have seen the same, the first keeps the places, and each has half of the share
pub record Split {T : Type 0} (cap : Option ℕ) (v a b : View T) : Type 0 where
  pub begins : IsPrefix v.seen a.seen
  pub same : b.seen ≡ a.seen
  pub legal : IsHistory cap a.seen
  pub mine : (a.mine ≡ v.mine) × (b.mine ≡ [])
  pub share : (a.share ≡ half v.share) × (b.share ≡ half v.share)

-- two parties become one, which has seen and done what both have
pub record Join {T : Type 0} (cap : Option ℕ) (a b w : View T) : Type 0 where
  pub apart : Apart a b
  pub legal : IsHistory cap w.seen
  pub begins : IsPrefix a.seen w.seen × IsPrefix b.seen w.seen
  pub mine : w.mine ≡ a.mine ++ b.mine
  pub share : w.share ≡ plus a.share b.share

-- two parties have then seen what either had seen, and keep their places and their shares
pub record Meet {T : Type 0} (cap : Option ℕ) (a b c d : View T) : Type 0 where
  pub apart : Apart a b
  pub legal : IsHistory cap c.seen
  pub begins : IsPrefix a.seen c.seen × IsPrefix b.seen c.seen
  pub same : d.seen ≡ c.seen
  pub mine : (c.mine ≡ a.mine) × (d.mine ≡ b.mine)
  pub share : (c.share ≡ a.share) × (d.share ≡ b.share)
