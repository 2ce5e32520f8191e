-- Which spare a call goes on with after what it found at an end.
use Rattle.std.proofs.Common.{ℕ, ◌≡◌, ◌%◌, inl, inr, zero, suc, true, false, if◌then◌else◌, sym, Option, Some, None, refl}
use Rattle.std.proofs.lemmas.Bool.Decides.{eqb_tells}
use Rattle.queue_laws.specs.{Common.Vocabulary.Answer, Common.Vocabulary.PushKind, Common.Vocabulary.BLOCK_SLOTS, Common.Vocabulary.Look, Chain.ChainAnswers.last_of}
use Rattle.queue_steps.specs.{declared.steps.chain.ChainLocal.ChainLocal as chain, Words.position_of, ChainWords.block_at, ChainWords.offset_of}
use Rattle.queue_steps.specs.ChainNext.{chain_next, chain_tail_found, chain_pop_tail_found, chain_head_found, tail_block_found, head_block_found, asks, claims, is_last_slot}
use Rattle.queue_laws.{proofs.Chain.ChainPush.tail_ways}
use Rattle.shared_chain.proofs.Frames.Leaves.{spare_on}

-- which spare a call goes on with after a word that it found
pub tail_spare : (d : PushKind) (x : ℕ) (spare : Option ℕ) → spare_on (chain_tail_found d x spare) ≡ spare
tail_spare d x spare = tail_ways d x spare (λ n. spare_on n ≡ spare) (λ shut. refl) (λ opened spent. refl) (λ over. refl) (λ opened ne inner. refl)

pub head_spare : (x : ℕ) → spare_on (chain_head_found x) ≡ None
head_spare x = elim (eqb_tells (offset_of x) BLOCK_SLOTS) [ inl t ↦ rw (t.0) refl | inr t ↦ rw (t.0) refl ]

pub pop_spare : (h : ℕ) (block : Option ℕ) (x : ℕ) → spare_on (chain_pop_tail_found h block x) ≡ None
pop_spare h None x = elim (eqb_tells (position_of x) (position_of h)) [ inl t ↦ rw (t.0) refl | inr t ↦ rw (t.0) refl ]
pop_spare h (Some b) x = elim (eqb_tells (position_of x) (position_of h)) [
  | inl t ↦ rw (t.0) refl
  | inr t ↦ elim (eqb_tells (block_at (position_of x)) (block_at (position_of h))) [ inl u ↦ rw (t.0, u.0) refl | inr u ↦ rw (t.0, u.0) refl ]
]

pub again_spare : (g : Look) (t h x : ℕ) → spare_on (chain_next (chain.CountAgain g t h) (Answer.Found x)) ≡ None
again_spare g t h x = elim (eqb_tells x t) [ inl e ↦ rw (e.0) refl | inr e ↦ rw (e.0) refl ]

-- and after a link that it found
pub no_last : (names : ℕ → ℕ) (blocks : ℕ) → last_of names blocks ≡ None → blocks ≡ 0
no_last names zero e = refl
no_last names (suc b) e = let z : Some (names b) ≡ None = e in cc

pub block_spare : (d : PushKind) (x : ℕ) (block spare : Option ℕ) → (block ≡ None → spare ≡ None) → spare_on (tail_block_found d x block spare) ≡ spare
block_spare d x None spare none = sym (none refl)
block_spare d x (Some b) None none = elim (is_last_slot x) as (λ t. spare_on (if t then asks d x (Some b) else claims d x b None) ≡ None) [ true ↦ refl | false ↦ refl ]
block_spare d x (Some b) (Some f) none = refl

pub front_spare : (x : ℕ) (block : Option ℕ) → spare_on (head_block_found x block) ≡ None
front_spare x None = elim (eqb_tells (x % 2) 1) [ inl t ↦ rw (t.0) refl | inr t ↦ rw (t.0) refl ]
front_spare x (Some b) = elim (eqb_tells (x % 2) 1) [ inl t ↦ rw (t.0) refl | inr t ↦ rw (t.0) refl ]
