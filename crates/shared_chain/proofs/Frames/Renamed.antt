-- The steps of a chain ask nothing of the names of blocks: with other names the next step is the same, with those names.
use Rattle.std.proofs.Common.{ℕ, ◌+◌, ◌%◌, ◌≡◌, ◌==◌, Bool, true, false, not, if◌then◌else◌, Option, Some, None, IsSome, refl, bit_and, nat_lt, is_some}
use Rattle.queue_laws.specs.Common.Vocabulary.{Call, Kind, Answer, Local, Next, PushKind, ChainLocal, LIMIT, BLOCK_SLOTS, WRITE, READ, DESTROY}
use Rattle.queue_steps.specs.declared.steps.{types.Answer.TheVariants.Start, types.Answer.TheVariants.Found, types.Answer.TheVariants.Linked, types.Answer.TheVariants.Granted, chain.ChainLocal.ChainLocal as chain}
use Rattle.queue_steps.specs.{Words.position_of, Words.is_shut, Next.CanNext, Next.next_of, ChainWords.block_at, ChainWords.offset_of, ChainWords.items_before}
use Rattle.queue_steps.specs.ChainNext.{is_last_slot, chain_tail_found, tail_block_found, granted, installed, lays, chain_head_found, head_block_found, chain_pop_tail_found, followed, walks_on, FitsChain, chain_begin, chain_next}
use Rattle.shared_chain.specs.Names.{name_map, answer_map, chain_map, local_map, next_map}

module _ {B C : Type 0} (f : B → C) where
  if_map : (b : Bool) (x y : Next B) (u v : Next C) → u ≡ next_map f x → v ≡ next_map f y → (if b then u else v) ≡ next_map f (if b then x else y)
  if_map true x y u v e d = e
  if_map false x y u v e d = d

  tail_found_map : (d : PushKind) (x : ℕ) (s : Option B) → chain_tail_found d x (name_map f s) ≡ next_map f (chain_tail_found d x s)
  tail_found_map d x s = if_map (is_shut x) _ _ _ _ refl (if_map (items_before (position_of x) == LIMIT) _ _ _ _ refl (if_map (offset_of x == BLOCK_SLOTS) _ _ _ _ refl refl))

  block_found_map : (d : PushKind) (x : ℕ) (b s : Option B) → tail_block_found d x (name_map f b) (name_map f s) ≡ next_map f (tail_block_found d x b s)
  block_found_map d x (Some b) None = if_map (is_last_slot x) _ _ _ _ refl refl
  block_found_map d x b s = refl

  granted_map : (d : PushKind) (x : ℕ) (b : Option B) (s : B) → granted d x (name_map f b) (f s) ≡ next_map f (granted d x b s)
  granted_map d x None s = refl
  granted_map d x (Some b) s = refl

  installed_map : (d : PushKind) (x : ℕ) (s : B) (b : Option B) → installed d x (f s) (name_map f b) ≡ next_map f (installed d x s b)
  installed_map d x s None = refl
  installed_map d x s (Some b) = refl

  lays_map : (d : PushKind) (x : ℕ) (b : B) (s : Option B) → lays d x (f b) (name_map f s) ≡ next_map f (lays d x b s)
  lays_map d x b None = refl
  lays_map d x b (Some s) = refl

  head_found_map : (x : ℕ) → chain_head_found x ≡ next_map f (chain_head_found x)
  head_found_map x = if_map (offset_of x == BLOCK_SLOTS) _ _ _ _ refl refl

  front_found_map : (x : ℕ) (b : Option B) → head_block_found x (name_map f b) ≡ next_map f (head_block_found x b)
  front_found_map x None = if_map (x % 2 == 1) _ _ _ _ refl refl
  front_found_map x (Some b) = if_map (x % 2 == 1) _ _ _ _ refl refl

  pop_tail_map : (x : ℕ) (b : Option B) (t : ℕ) → chain_pop_tail_found x (name_map f b) t ≡ next_map f (chain_pop_tail_found x b t)
  pop_tail_map x None t = if_map (position_of t == position_of x) _ _ _ _ refl refl
  pop_tail_map x (Some b) t = if_map (position_of t == position_of x) _ _ _ _ refl (if_map (block_at (position_of t) == block_at (position_of x)) _ _ _ _ refl refl)

  followed_map : (x : ℕ) (b : B) (a : Option B) → followed x (f b) (name_map f a) ≡ next_map f (followed x b a)
  followed_map x b None = refl
  followed_map x b (Some a) = refl

  some_map : (b : Option B) → is_some (name_map f b) ≡ is_some b
  some_map None = refl
  some_map (Some b) = refl

  walks_on_map : (b : B) (i : ℕ) → walks_on (f b) i ≡ next_map f (walks_on b i)
  walks_on_map b i = if_map (nat_lt (i + 2) BLOCK_SLOTS) _ _ _ _ refl refl

  -- the next step with other names
  pub chain_next_map : (l : ChainLocal B) (a : Answer B) → FitsChain l a → chain_next (chain_map f l) (answer_map f a) ≡ next_map f (chain_next l a)
  chain_next_map (chain.PushTail d s) (Found t) fits = tail_found_map d t s
  chain_next_map (chain.PushBlock d t s) (Linked b) fits = block_found_map d t b s
  chain_next_map (chain.Asking d t b) (Granted s) fits = granted_map d t b s
  chain_next_map (chain.Installing d t s) (Linked b) fits = installed_map d t s b
  chain_next_map (chain.Claiming d t b s) (Found x) fits = if_map (x == t) _ _ _ _ (if_map (is_last_slot t) _ _ _ _ (lays_map d t b s) refl) (tail_found_map d x s)
  chain_next_map chain.PopHead (Found x) fits = head_found_map x
  chain_next_map (chain.PopBlock h) (Linked b) fits = front_found_map h b
  chain_next_map (chain.PopTail h b) (Found t) fits = pop_tail_map h b t
  chain_next_map (chain.Taking h b) (Found x) fits = if_map (x == h) _ _ _ _ (if_map (is_last_slot h) _ _ _ _ refl refl) (head_found_map x)
  chain_next_map (chain.Following h b) (Linked a) fits = followed_map h b a
  chain_next_map (chain.Peeking h b a) (Linked x) fits = rw (some_map x) refl
  chain_next_map (chain.Awaiting h b) (Found x) fits = if_map (bit_and x WRITE == 0) _ _ _ _ refl (if_map (is_last_slot h) _ _ _ _ refl refl)
  chain_next_map (chain.Reading b i) (Found x) fits = if_map (not (bit_and x DESTROY == 0)) _ _ _ _ (walks_on_map b i) refl
  chain_next_map (chain.Walking b i) (Found x) fits = if_map (not (bit_and x READ == 0)) _ _ _ _ (walks_on_map b i) refl
  chain_next_map (chain.Destroying b i) (Found x) fits = if_map (not (bit_and x READ == 0)) _ _ _ _ (walks_on_map b i) refl
  chain_next_map (chain.CountAgain g t h) (Found x) fits = if_map (x == t) _ _ _ _ refl refl
  chain_next_map l (Found x) fits = refl
  chain_next_map l a fits = refl

  none_map : (b s : Option B) → (b ≡ None → s ≡ None) → name_map f b ≡ None → name_map f s ≡ None
  none_map None None h e = refl
  none_map None (Some s) h e = let g = h refl in cc
  none_map (Some b) s h e = cc

  is_some_map : (b : Option B) → IsSome b → IsSome (name_map f b)
  is_some_map None h = h
  is_some_map (Some b) h = refl

  -- an answer fits with other names where it fits
  pub fits_map : (l : ChainLocal B) (a : Answer B) → FitsChain l a → FitsChain (chain_map f l) (answer_map f a)
  fits_map (chain.PushBlock d t s) (Linked b) fits = (fits.0, none_map b s fits.1)
  fits_map (chain.Claiming d t b s) (Found x) fits = (fits.0, λ e last. is_some_map s (fits.1 e last))
  fits_map (chain.PopBlock h) (Linked b) fits = (fits.0, λ e. is_some_map b (fits.1 e))
  fits_map l (Found x) fits = fits
  fits_map l a fits = fits

  -- a call begins so with any names
  pub chain_begin_map : (c : Call Unit) → chain_begin c ≡ next_map f (chain_begin c)
  chain_begin_map (Call.Push v) = refl
  chain_begin_map c = refl

  pub can_next_map : (l : Local B) (a : Answer B) → CanNext Kind.Unbounded l a → CanNext Kind.Unbounded (local_map f l) (answer_map f a)
  can_next_map (Local.Begin c) Start can = tt
  can_next_map (Local.Chain l) a can = fits_map l a can
  can_next_map _ _ can = absurd can

  -- what a call does next, with other names
  pub next_of_map : (l : Local B) (a : Answer B) → CanNext Kind.Unbounded l a → next_of Kind.Unbounded (local_map f l) (answer_map f a) ≡ next_map f (next_of Kind.Unbounded l a)
  next_of_map (Local.Begin c) Start can = chain_begin_map c
  next_of_map (Local.Chain l) a can = chain_next_map l a can
  next_of_map _ _ can = absurd can
