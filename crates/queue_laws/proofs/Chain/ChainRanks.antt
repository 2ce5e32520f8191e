-- How many steps a call on a chain takes at most from where it stands, while nobody hinders it: no other party holds a part of the chain but the first block, which it may be to show.
use Rattle.std.proofs.Common.{ℕ, ◌+◌, ◌-◌, ◌<◌, ◌≤◌, ◌≡◌, ◌≢◌, ◌==◌, ◌∙◌, Bool, true, false, if◌then◌else◌, Option, Some, None, inl, inr, refl, ap, arith}
use Rattle.std.proofs.lemmas.Bool.{eq-eqb, Decides.eqb_tells}
use Rattle.queue_laws.specs.{Common.Vocabulary.Local, Common.Vocabulary.Next, Common.Vocabulary.BLOCK_SLOTS, Chain.ChainAnswers.tail_word, Chain.ChainAnswers.head_word, Chain.ChainAt.Only}
use Rattle.queue_steps.specs.{Words.position_of, declared.steps.chain.ChainLocal.ChainLocal as chain}
use Rattle.queue_laws.proofs.Common.Ranks.{either_small, either_some}
use Rattle.queue_laws.specs.Chain.ChainCells.{Mover, Rests, Laying, Opening, Passer, Stands, Passing, Entering, Shown, Seen, Chain, LAST, Part, First, owner, mover_of, passer_of, HoldsOnly}

-- how many steps more are before a call that has read a word which is another one now
abbrev pub lag : ℕ → ℕ → ℕ → ℕ
lag now read more = if now == read then 0 else more

-- and before a push that has no spare, and comes to the first block late: while the tail is at its first place another party may have installed it
abbrev pub late : ℕ → Option ℕ → ℕ
late t None = if position_of t == 0 then 6 else 0
late t (Some f) = 0

abbrev pub is_seen : Shown → Bool
is_seen Seen = true
is_seen _ = false

-- the steps of the walk over a passed block from this slot on, which never comes to the last one
abbrev pub walk_rank : ℕ → ℕ
walk_rank slot = LAST - 1 - slot + 1

-- how many steps a call takes from here at most, by the words of the tail and the head: a word that it read may be another one now, and is the same once it has read again
abbrev pub rank_at : ℕ → ℕ → Local ℕ → ℕ
rank_at t h (Local.Chain (chain.PushTail d spare)) = 10 + late t spare
rank_at t h (Local.Chain (chain.PushBlock d tail spare)) = 9 + late t spare + lag t tail 5
rank_at t h (Local.Chain (chain.Asking d tail None)) = 13
rank_at t h (Local.Chain (chain.Asking d tail (Some block))) = 6 + lag t tail 5
rank_at t h (Local.Chain (chain.Installing d tail fresh)) = 12
rank_at t h (Local.Chain (chain.Showing d tail block)) = 6 + lag t tail 5
rank_at t h (Local.Chain (chain.Claiming d tail block spare)) = 5 + lag t tail 5
rank_at t h (Local.Chain (chain.Laying d tail block fresh)) = 4
rank_at t h (Local.Chain (chain.Opening d tail block fresh)) = 3
rank_at t h (Local.Chain (chain.Chaining d tail block fresh)) = 2
rank_at t h (Local.Chain chain.PopHead) = BLOCK_SLOTS + 8
rank_at t h (Local.Chain (chain.PopBlock head)) = BLOCK_SLOTS + 7 + lag h head 3
rank_at t h (Local.Chain (chain.PopTail head None)) = if position_of t == 0 then 1 else BLOCK_SLOTS + 9
rank_at t h (Local.Chain (chain.PopTail head (Some block))) = BLOCK_SLOTS + 6 + lag h head 3
rank_at t h (Local.Chain (chain.Taking head block)) = BLOCK_SLOTS + 5 + lag h head 3
rank_at t h (Local.Chain (chain.Following head block)) = BLOCK_SLOTS + 4
rank_at t h (Local.Chain (chain.Peeking head block after)) = BLOCK_SLOTS + 3
rank_at t h (Local.Chain (chain.Passing head block more)) = BLOCK_SLOTS + 2
rank_at t h (Local.Chain (chain.Entering head block)) = BLOCK_SLOTS + 1
rank_at t h (Local.Chain (chain.Awaiting head block)) = BLOCK_SLOTS
rank_at t h (Local.Chain (chain.Reading block slot)) = walk_rank slot
rank_at t h (Local.Chain (chain.Walking block slot)) = walk_rank slot
rank_at t h (Local.Chain (chain.Destroying block slot)) = walk_rank slot
rank_at t h (Local.Chain (chain.CountTail g)) = 3
rank_at t h (Local.Chain (chain.CountHead g tail)) = 2 + lag t tail 3
rank_at t h (Local.Chain (chain.CountAgain g tail head)) = 1 + lag t tail 3
rank_at t h (Local.Chain chain.EmptyHead) = 2
rank_at t h _ = 1

abbrev pub rank : {A : Type 0} → Chain A → Local ℕ → ℕ
rank c l = rank_at (tail_word c) (head_word c) l

-- the most steps that a call has before it, wherever it stands
abbrev pub longest : ℕ
longest = BLOCK_SLOTS + 10

pub lag_small : (now read more : ℕ) → lag now read more ≤ more
lag_small now read more = either_small (now == read) 0 more more (omega arith) (omega arith)

late_small : (t : ℕ) (spare : Option ℕ) → late t spare ≤ 6
late_small t None = either_small (position_of t == 0) 6 0 6 (omega arith) (omega arith)
late_small t (Some f) = omega arith

pub rank_small : (t h : ℕ) (l : Local ℕ) → rank_at t h l ≤ longest
rank_small t h (Local.Chain (chain.PushTail d spare)) = let y = late_small t spare in omega arith
rank_small t h (Local.Chain (chain.PushBlock d tail spare)) = let y = late_small t spare in let x = lag_small t tail 5 in omega arith
rank_small t h (Local.Chain (chain.Asking d tail (Some block))) = let x = lag_small t tail 5 in omega arith
rank_small t h (Local.Chain (chain.Showing d tail block)) = let x = lag_small t tail 5 in omega arith
rank_small t h (Local.Chain (chain.Claiming d tail block spare)) = let x = lag_small t tail 5 in omega arith
rank_small t h (Local.Chain (chain.PopBlock head)) = let x = lag_small h head 3 in omega arith
rank_small t h (Local.Chain (chain.PopTail head None)) = either_small (position_of t == 0) 1 (BLOCK_SLOTS + 9) longest (omega arith) (omega arith)
rank_small t h (Local.Chain (chain.PopTail head (Some block))) = let x = lag_small h head 3 in omega arith
rank_small t h (Local.Chain (chain.Taking head block)) = let x = lag_small h head 3 in omega arith
rank_small t h (Local.Chain (chain.CountHead g tail)) = let x = lag_small t tail 3 in omega arith
rank_small t h (Local.Chain (chain.CountAgain g tail head)) = let x = lag_small t tail 3 in omega arith
rank_small t h l = omega arith

-- a call in progress has a step before it
pub rank_some : (t h : ℕ) (l : Local ℕ) → 0 < rank_at t h l
rank_some t h (Local.Chain (chain.PopTail head None)) = either_some (position_of t == 0) 1 (BLOCK_SLOTS + 9) (omega arith) (omega arith)
rank_some t h (Local.Chain (chain.Asking d tail None)) = omega arith
rank_some t h (Local.Chain (chain.Asking d tail (Some block))) = omega arith
rank_some t h l = omega arith

-- the call replies, or goes on with fewer steps before it
abbrev pub Falls : {A : Type 0} → Chain A → Next ℕ → ℕ → Type 0
Falls s (Next.Step l t o) n = rank s l < n
Falls s (Next.Reply x spare) n = Unit {0}

-- a word that was just read is the same
pub lag_none : (w n more m : ℕ) → n < m → n + lag w w more < m
lag_none w n more m lt = let e : lag w w more ≡ 0 = ap (λ b. if b then 0 else more) (eq-eqb w w refl) in omega (arith, e)

-- no other party holds a part but the first block, which it is to show
abbrev pub IsBare : {A : Type 0} → Chain A → ℕ → Type 0
IsBare c who = (other : ℕ) → other ≢ who → HoldsOnly c other (Only First)

-- a part is nobody's that neither the party holds nor another
pub unheld : {A : Type 0} (c : Chain A) (who : ℕ) (P Q : Part → Type 0) (x : Part) → ((j : ℕ) → j ≢ who → HoldsOnly c j Q) → HoldsOnly c who P → (P x → ⊥) → (Q x → ⊥) → (p : ℕ) → owner c x ≢ Some p
unheld c who P Q x others holds none never p e = elim (eqb_tells p who) [
  | inl t ↦ none (holds x (e ∙ ap (λ q. Some q) t.1))
  | inr t ↦ never (others p t.1 x e)
]

pub rests_if : (m : Mover) → ((p : ℕ) → mover_of m ≢ Some p) → m ≡ Rests
rests_if Rests free = refl
rests_if (Laying p) free = absurd (free p refl)
rests_if (Opening p) free = absurd (free p refl)

pub stands_if : (x : Passer) → ((p : ℕ) → passer_of x ≢ Some p) → x ≡ Stands
stands_if Stands free = refl
stands_if (Passing p) free = absurd (free p refl)
stands_if (Entering p) free = absurd (free p refl)
