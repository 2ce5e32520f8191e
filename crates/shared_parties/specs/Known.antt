-- What the parties of one queue know, whatever the queue is made of.
use Rattle.std.specs.Prelude.{◌≡◌, ◌⊎◌, ℕ, ◌+◌, ◌^◌, ◌<◌, ◌≤◌, List, [], ◌∷◌, ◌++◌, length, Option}
use mathlib.Core.{Option.some, List.IsPrefix}
use lib.ListN.{get_elem?}
use Rattle.queue_laws.specs.Common.Vocabulary.{Effect, MAX_PARTIES}
use Rattle.queue_steps.specs.{Effect.IsHistory, Shares.Share, Shares.nothing, Shares.half, Shares.plus, Shares.IsEntire, Shares.IsSome, Shares.IsPart, Shares.weight, Parties.View}
use Rattle.shared_parties.specs.{Counting.times, Counting.once_below, declared.known.Known.Known}

-- a sum over a list
abbrev pub total : {A : Type 0} → (A → ℕ) → List A → ℕ
total f [] = 0
total f (x ∷ xs) = f x + total f xs

abbrev pub known : {T : Type 0} → Option ℕ → List (Effect T) → List (Effect T) → List ℕ → List ℕ → ℕ → ℕ → Share → Share → Known T
known cap seen second_seen mine second_places parties surplus share second_share =
    record { cap = cap; seen = seen; second_seen = second_seen; mine = mine; second_places = second_places; parties = parties; surplus = surplus; share = share; second_share = second_share }

-- a party between its calls
abbrev pub party : {T : Type 0} → Option ℕ → List (Effect T) → List ℕ → Share → Known T
party cap seen mine share = known cap seen [] mine [] 1 0 share nothing

-- nobody: the seat counts for no party
abbrev pub nobody : {T : Type 0} → Option ℕ → Known T
nobody cap = known cap [] [] [] [] 0 0 nothing nothing

abbrev pub view_of : {T : Type 0} → Known T → View T
view_of v = record { seen = v.seen; mine = v.mine; share = v.share }

-- how often the place is one of this seat's
abbrev pub has : {T : Type 0} → ℕ → Known T → ℕ
has p v = times p v.mine + times p v.second_places

-- the shares of this seat's parties, together
abbrev pub share_of : {T : Type 0} → Known T → Share
share_of v = plus v.share v.second_share

-- how many parts of 1 / 2^depth they are
abbrev pub portion : {T : Type 0} → ℕ → Known T → ℕ
portion depth v = weight depth v.share + weight depth v.second_share

-- what a seat knows is true of the history h of a queue of this capacity. The seat of no party has no share, that of one party has one, and that of two has two
pub record IsTrueOf {T : Type 0} (cap : Option ℕ) (h : List (Effect T)) (v : Known T) : Type 0 where
  pub capped : 0 < v.parties → v.cap ≡ cap
  pub begins : IsPrefix v.seen h
  pub heard : IsPrefix v.second_seen h
  pub within : (p : ℕ) → 0 < has p v → (p < length v.seen) ⊎ (p < length v.second_seen)
  pub empty : v.parties ≡ 0 → (p : ℕ) → has p v ≡ 0
  pub surplus : v.surplus ≤ v.parties
  pub poor : v.parties ≡ 0 → v.share.0 ≡ 0
  pub some : 0 < v.parties → IsSome v.share
  pub alone : v.parties ≤ 1 → v.second_share.0 ≡ 0
  pub both : 2 ≤ v.parties → IsSome v.second_share

-- the shares of all seats are together one, counted in parts of 1 / 2^depth
pub record Divided {T : Type 0} (views : List (Known T)) : Type 0 where
  pub depth : ℕ
  pub shallow : (j : ℕ) (v : Known T) → get_elem? views j ≡ some v → (v.share.1 ≤ depth) × (v.second_share.1 ≤ depth)
  pub one : total (portion depth) views ≡ 2 ^ depth

-- there is one legal history. Each of its places is one seat's, and what the seats know is true of it. The number `parties` counts them, and their shares are one
pub record Kept {T : Type 0} (cap : Option ℕ) (h : List (Effect T)) (parties : ℕ) (views : List (Known T)) : Type 0 where
  pub legal : IsHistory cap h
  pub true_of : (j : ℕ) (v : Known T) → get_elem? views j ≡ some v → IsTrueOf cap h v
  pub owned : (p : ℕ) → total (has p) views ≡ once_below p (length h)
  pub counted : total (λ (v : Known T). v.parties) views + total (λ (v : Known T). v.surplus) views ≡ parties
  pub limited : total (λ (v : Known T). v.parties) views ≤ MAX_PARTIES
  pub divided : Divided views

-- it has seen the whole history h
abbrev pub looked : {T : Type 0} → List (Effect T) → Known T → Known T
looked h v = known v.cap h [] v.mine v.second_places v.parties v.surplus v.share v.second_share

-- it has seen the whole history h, and then added an effect of its own
abbrev pub gained : {T : Type 0} → List (Effect T) → Effect T → Known T → Known T
gained h e v = known v.cap (h ++ e ∷ []) [] (v.mine ++ length h ∷ []) v.second_places v.parties v.surplus v.share v.second_share

-- the count of parties was raised for it, and it has two halves of its share
abbrev pub granted : {T : Type 0} → Known T → Known T
granted v = known v.cap v.seen v.second_seen v.mine v.second_places 2 0 (half v.share) (half v.share)

-- the count of parties was raised in vain
abbrev pub refused : {T : Type 0} → Known T → Known T
refused v = known v.cap v.seen v.second_seen v.mine v.second_places 1 1 v.share v.second_share

-- and lowered again
abbrev pub withdrawn : {T : Type 0} → Known T → Known T
withdrawn v = known v.cap v.seen v.second_seen v.mine v.second_places 1 0 v.share v.second_share

-- two parties become one, which has seen the whole history h
abbrev pub united : {T : Type 0} → List (Effect T) → Known T → Known T
united h v = known v.cap h [] (v.mine ++ v.second_places) [] 1 0 (plus v.share v.second_share) nothing

-- of two parties, the one
abbrev pub one_of : {T : Type 0} → Known T → Known T
one_of v = known v.cap v.seen v.second_seen v.mine [] 1 0 v.share nothing

-- and the other
abbrev pub other_of : {T : Type 0} → Known T → Known T
other_of v = known v.cap v.seen v.second_seen v.second_places [] 1 0 v.second_share nothing

-- two parties in one seat
abbrev pub pair_of : {T : Type 0} → Known T → Known T → Known T
pair_of v w = known v.cap v.seen w.seen v.mine w.mine 2 0 v.share w.share

-- from v to w a seat saw the whole history of that moment, and added nothing. Where all shares are its own, every place of it is
pub record Sees {T : Type 0} (v w : Known T) : Type 0 where
  pub later : IsPrefix v.seen w.seen
  pub heard : IsPrefix v.second_seen w.seen
  pub legal : IsHistory v.cap w.seen
  pub inside : (p : ℕ) → 0 < has p v → p < length w.seen
  pub once : (p : ℕ) → has p v ≤ 1
  pub part : IsPart (share_of v)
  pub whole : IsEntire (share_of v) → (p : ℕ) → has p v ≡ once_below p (length w.seen)
  pub same : w ≡ looked w.seen v

-- from v to w a seat saw the whole history of that moment, and added its effect e. Where all shares are its own, every place is
pub record Gains {T : Type 0} (e : Effect T) (v w : Known T) : Type 0 where
  pub before : List (Effect T)
  pub later : IsPrefix v.seen before
  pub legal : IsHistory v.cap w.seen
  pub whole : IsEntire (share_of v) → (p : ℕ) → has p w ≡ once_below p (length w.seen)
  pub same : w ≡ gained before e v
