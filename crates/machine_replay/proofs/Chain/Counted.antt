-- The blocks of a machine over a chain are within the bound, and no fewer than its items span.
use Rattle.std.proofs.Common.{ℕ, ◌<◌, ◌≡◌, ◌≢◌, not, nat_lt, ◌∙◌, inl, inr, true, false, Option, Some, None, is_some, List, [], ◌∷◌, length, refl, sym, ap, subst, arith, get_or}
use Rattle.std.proofs.lemmas.{Bool.ltb-true, Bool.ltb-false, List.get_or_past}
use Rattle.queue_steps.specs.{State.State, Sequential.blocks_of}
use Rattle.machine_replay.specs.{Vocabulary.Call, Vocabulary.Effect, Vocabulary.Running, Book.Book}
use Rattle.machine_replay.proofs.{Engine.StandOf.stand_of, Chain.Names.NameIs, Chain.Holding.ChainHolds, Engine.KindLaws.IsCounted}
use Rattle.queue_laws.specs.Chain.{ChainCells.Walk, ChainCells.GivenUp, ChainCells.Use, ChainCells.Chained, ChainCells.Chain, ChainCells.queue_of, ChainCells.HoldsOnly, ChainCells.Nothing, ChainAt.At, ChainPasses.spare_in, ChainPasses.Spares}
use Rattle.queue_laws.proofs.Chain.{Count.count, Count.count_same, Count.count_front, ChainHands.HandOf, ChainHands.in_hand, ChainHands.idle_hand, ChainCount.is_given_up, ChainCount.is_alive, ChainCount.alive, ChainCount.few_alive, ChainSpan.spans_if, ChainSpan.held_items}
use Rattle.machine_memory.specs.{Blocks.BlockState, SharedMemory.MemoryState, Present.present}
use Rattle.machine_steps.specs.World.{World, call_at}

-- a call of the party stands on the chain
pub record InCall {A : Type 0} (g : Chain A) (who : ℕ) (r : Running A) : Type 0 where
  pub moments : List (State A)
  pub call : Call A
  pub effects : List (Effect A)
  pub here : At g who moments (stand_of r call effects)
  pub spares : Spares g who (spare_in r.local)

-- where a party stands: between its calls it holds nothing
abbrev pub StandsAt : {A : Type 0} → Chain A → ℕ → Option (Running A) → Type 0
StandsAt g who None = HoldsOnly g who Nothing × Spares g who None
StandsAt g who (Some r) = InCall g who r

-- how many there are, by their places
present_count : {X : Type 0} (xs : List (Option X)) → present xs ≡ count (λ i. is_some (get_or xs i None)) (length xs)
present_count [] = refl
present_count (None ∷ xs) = let rest = present_count xs in let front = count_front (λ i. is_some (get_or (None ∷ xs) i None)) (length xs) in omega arith
present_count (Some x ∷ xs) = let rest = present_count xs in let front = count_front (λ i. is_some (get_or (Some x ∷ xs) i None)) (length xs) in omega arith

pub within_list : {X : Type 0} (xs : List (Option X)) (i : ℕ) → is_some (get_or xs i None) ≡ true → i < length xs
within_list xs i e =
    elim (nat_lt i (length xs)) as (λ b. nat_lt i (length xs) ≡ b → i < length xs) [
      | true ↦ λ is. ltb-true i (length xs) is
      | false ↦ λ is. let past = get_or_past xs i None (ltb-false i (length xs) is) in let z : false ≡ true = sym (ap is_some past) ∙ e in cc
    ] refl

kept_walk : (w : Walk) → w ≢ GivenUp → true ≡ not (is_given_up w)
kept_walk GivenUp ne = absurd (ne refl)
kept_walk w ne = refl

-- a block is there exactly where it is alive
name_present : {A : Type 0} (g : Chain A) (f : ℕ) (u : Use) (y : Option (BlockState A)) → NameIs g f u y → is_some y ≡ is_alive g.walks u
name_present g f (Chained b) y (named, inl h) = ap is_some h.1 ∙ ap (λ w. not (is_given_up w)) (sym h.0)
name_present g f (Chained b) None (named, inr h) = absurd h.1
name_present g f (Chained b) (Some x) (named, inr h) = kept_walk (g.walks b) h.0
name_present g f u y h = ap is_some h

present_alive : {A : Type 0} (s : MemoryState A) (Q : State A) (g : Chain A) → ChainHolds s Q g → present s.blocks ≡ count (alive g) (length s.blocks)
present_alive s Q g holds = present_count s.blocks ∙ count_same (λ i. is_some (get_or s.blocks i None)) (alive g) (length s.blocks) (λ f lt. name_present g f (g.uses f) (get_or s.blocks f None) (holds.codes.name f))

alive_within : {A : Type 0} (s : MemoryState A) (Q : State A) (g : Chain A) → ChainHolds s Q g → (f : ℕ) → alive g f ≡ true → f < length s.blocks
alive_within s Q g holds f e = within_list s.blocks f (name_present g f (g.uses f) (get_or s.blocks f None) (holds.codes.name f) ∙ e)

hand_at : {A : Type 0} (g : Chain A) (who : ℕ) (x : Option (Running A)) → StandsAt g who x → HandOf g who (is_some x)
hand_at g who None h = idle_hand g who h.0 h.1
hand_at g who (Some r) h = in_hand h.here h.spares

pub chain_counted : {A : Type 0} (w : World (MemoryState A) (Running A)) (b : Book A) (g : Chain A) → ChainHolds w.shared b.queue g → b.busy ≡ present w.calls → ((p : ℕ) → StandsAt g p (call_at w p)) → IsCounted w b
chain_counted {A} w b g holds busy each = record {
  within =
      let few = few_alive g (length w.shared.blocks) (length w.calls) (λ p. is_some (call_at w p)) holds.ok hands (λ p e. within_list w.calls p e) in
      let all = present_alive w.shared b.queue g holds in
      let calls = present_count w.calls in
      let items : length b.queue.items ≡ length g.items = ap (λ q. length q.items) holds.queue_is in
      omega (arith, few, all, calls, busy, items);
  spans = λ some.
      let all = present_alive w.shared b.queue g holds in
      let many = spans_if g (length w.shared.blocks) (λ p. is_some (call_at w p)) holds.ok hands (λ f e. alive_within w.shared b.queue g holds f e) (subst (λ q. 0 < q.accepted) holds.queue_is some) in
      let same : blocks_of b.queue ≡ blocks_of (queue_of g) = ap blocks_of holds.queue_is in
      omega (arith, many, all, same);
  none = λ n e. let z : None ≡ Some n = sym (ap (λ q. q.cap) holds.queue_is) ∙ e in cc;
  held_is = λ some. rw (ap (λ e. e.tail) holds.codes.ends, ap (λ e. e.head) holds.codes.ends) (held_items g holds.ok ∙ sym (ap (λ q. length q.items) holds.queue_is));
}
  where
    hands : (p : ℕ) → HandOf g p (is_some (call_at w p))
    hands p = hand_at g p (call_at w p) (each p)
