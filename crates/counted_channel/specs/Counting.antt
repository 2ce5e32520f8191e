-- What the seats of a channel's ends know, and what the two words of its table are to that.
use Rattle.std.specs.Prelude.{◌≡◌, ◌⊎◌, ℕ, zero, suc, ◌+◌, ◌^◌, ◌<◌, ◌≤◌, List, [], ◌∷◌}
use mathlib.Core.Option.{some}
use lib.ListN.{get_elem?}
use Rattle.atomic_table.specs.Table.{State, Me, Step}
use Rattle.queue_steps.specs.Shares.{Share, entire, nothing, half, plus, IsEntire, IsPart, IsSome, weight}
use Rattle.counted_channel.specs.declared.counting.{Side.Side, SeatCounts.SeatCounts, TheConstants.MAX_ENDS}

abbrev pub side : ℕ → ℕ → Share → Side
side ends extra stake = record { ends = ends; extra = extra; stake = stake }

-- a seat that counts for no end of the side
abbrev pub nobody : Side
nobody = side 0 0 nothing

abbrev pub both : Side → Side → SeatCounts
both x y = record { senders = x; receivers = y }

-- what a seat knows that knows this of the side whose word it is, and counts for no end of the other side
abbrev pub at_side : ℕ → Side → SeatCounts
at_side zero x = both x nobody
at_side (suc i) x = both nobody x

abbrev pub side_at : ℕ → SeatCounts → Side
side_at zero v = v.senders
side_at (suc i) v = v.receivers

abbrev pub stake_at : ℕ → SeatCounts → Share
stake_at i v = (side_at i v).stake

-- the first seat counts for one sender and for one receiver
abbrev pub both_sides : SeatCounts
both_sides = both (side 1 0 entire) (side 1 0 entire)

abbrev pub first_sender : SeatCounts
first_sender = at_side 0 (side 1 0 entire)

abbrev pub first_receiver : SeatCounts
first_receiver = at_side 1 (side 1 0 entire)

-- half of what a seat of two ends of a side counts for
abbrev pub halved_side : ℕ → Share → Side
halved_side zero t = nobody
halved_side (suc n) t = side 1 0 (half t)

abbrev pub halved : SeatCounts → SeatCounts
halved v = both (halved_side v.senders.ends v.senders.stake) (halved_side v.receivers.ends v.receivers.stake)

-- what two seats count for, together
abbrev pub together : Side → Side → Side
together x y = side (x.ends + y.ends) (x.extra + y.extra) (plus x.stake y.stake)

abbrev pub two_seats : SeatCounts → SeatCounts → SeatCounts
two_seats v w = both (together v.senders w.senders) (together v.receivers w.receivers)

-- a sum over the seats
abbrev pub total : (SeatCounts → ℕ) → List SeatCounts → ℕ
total f [] = 0
total f (v ∷ vs) = f v + total f vs

-- The seats count for no more ends of a side than it may have, and the number n tells for how many, with those for which they were counted in vain.
-- Who counts for one has a stake in the side, and all stakes are no more than one, counted in parts of 1 / 2^depth
pub record SideKept (of : SeatCounts → Side) (n : ℕ) (views : List SeatCounts) : Type 0 where
  pub extra : (j : ℕ) (v : SeatCounts) → get_elem? views j ≡ some v → (of v).extra ≤ (of v).ends
  pub counted : total (λ v. (of v).ends) views + total (λ v. (of v).extra) views ≡ n
  pub limited : total (λ v. (of v).ends) views ≤ MAX_ENDS
  pub has_stake : (j : ℕ) (v : SeatCounts) → get_elem? views j ≡ some v → 0 < (of v).ends → IsSome (of v).stake
  pub depth : ℕ
  pub shallow : (j : ℕ) (v : SeatCounts) → get_elem? views j ≡ some v → (of v).stake.1 ≤ depth
  pub one : total (λ v. weight depth (of v).stake) views ≤ 2 ^ depth

abbrev pub Table : Type 0
Table = State (Unit {0}) SeatCounts

abbrev pub Seated : Type 0
Seated = Me (Unit {0}) SeatCounts

-- the rule: the first word counts the senders, the second the receivers
pub record IsCounted (s : Table) : Type 0 where
  pub sent : ℕ
  pub received : ℕ
  pub words : s.words ≡ sent ∷ received ∷ []
  pub senders : SideKept (λ v. v.senders) sent s.views
  pub receivers : SideKept (λ v. v.receivers) received s.views

-- the seat of one end of the side whose word it is
abbrev pub IsEndSeat : ℕ → Seated → Type 0
IsEndSeat i m = m ≡ (at_side i (side 1 0 (stake_at i m.0)), [])

-- the seat m is parted, and n is one of the two seats that it becomes
abbrev pub IsHalfEnd : ℕ → Seated → Seated → Type 0
IsHalfEnd i m n = n ≡ (at_side i (side 1 0 (half (stake_at i m.0))), [])

-- the word was n and was raised: for one end more, or in vain where it was too high
abbrev pub Added : Step (Unit {0}) → Seated → ℕ → Seated → Type 0
Added st m n q =
    (q.1 ≡ m.1) × (n < MAX_ENDS → q.0 ≡ at_side st.word (side 2 0 (stake_at st.word m.0))) × (MAX_ENDS ≤ n → q.0 ≡ at_side st.word (side 1 1 (stake_at st.word m.0)))

-- the word was n and was lowered: where it had been raised in vain, for one of two ends of a seat, or for its only one. A seat that has all of the side's stakes found it 1 then,
-- and the stakes of two ends are together no more than one
abbrev pub Subtracted : Step (Unit {0}) → Seated → ℕ → Seated → Type 0
Subtracted st m n q =
    (q.1 ≡ m.1) × ((s : Share) → (m.0 ≡ at_side st.word (side 1 1 s)) ⊎ (m.0 ≡ at_side st.word (side 2 0 s)) → q.0 ≡ at_side st.word (side 1 0 s))
    × ((s : Share) → m.0 ≡ at_side st.word (side 1 0 s) → IsEntire s → n ≡ 1) × ((s : Share) → m.0 ≡ at_side st.word (side 2 0 s) → IsPart s)
